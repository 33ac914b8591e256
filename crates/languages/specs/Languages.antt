-- Reading the forms of a language: when a form is taken, and which word is refused otherwise. Assumes nothing.
use Rattle.std.specs.Prelude.{◌≡◌, ℕ, ◌<◌, Bool, false, ◌&&◌, List, [], ◌∷◌, ◌++◌, Some, ◌≢◌}
use Rattle.words.specs.Kinds.{illegal}
use Rattle.words.specs.Words.{Lexeme}
use Rattle.languages.specs.declared.refusal.Cause.{Cause}
use Rattle.languages.specs.declared.refusal.Cause.TheVariants.{IllegalWord, UnexpectedWord, WrongName, WrongVariable, NoSuchCondition, OverLimit}
use Rattle.languages.specs.declared.refusal.Refusal.{Refusal}
use Rattle.languages.specs.Refusals.{Fault, wrong_name, wrong_variable, no_such_condition, over_limit}
use Rattle.languages.specs.Senses.{sense, is_open, is_symbol}
use Rattle.languages.specs.Scripts.{Judged, Script, judged_in, asked_by, Faultless}

-- the words ls begin by spelling the judged words, and then come `after`
abbrev pub Spells : List Judged → List Lexeme → List Lexeme → Type 0
Spells [] ls after = ls ≡ after
Spells (j ∷ js) [] after = ⊥
Spells (j ∷ js) (l ∷ ls) after = (sense l.kind ≡ j.word) × Spells js ls after

-- In what follows a language is given by its forms: each has words that spell it, with what is wrong with each, and asks for
-- something.
module _ {F E : Type 0} (script : F → Script E) where
  -- a form that keeps every rule stands at the front of the words, `after` is behind it, and it asks for e
  pub record Takes (ls : List Lexeme) (e : E) (after : List Lexeme) : Type 0 where
    pub form : F
    pub spelled : Spells (judged_in (script form)) ls after
    pub clear : Faultless (judged_in (script form))
    pub asked : e ≡ asked_by (script form)

  -- no form that keeps every rule stands there
  abbrev pub TakesNone : List Lexeme → Type 0
  TakesNone ls = (form : F) (after : List Lexeme) → Spells (judged_in (script form)) ls after → Faultless (judged_in (script form)) → ⊥

  -- some form begins with these words
  abbrev pub Viable : List Lexeme → Type 0
  Viable front = (form : F) × (ahead : List Lexeme) × Spells (judged_in (script form)) (front ++ ahead) []

  -- some form begins with these words, and none of them breaks a rule
  pub record Begun (front : List Lexeme) : Type 0 where
    pub form : F
    pub here : List Judged
    pub ahead : List Judged
    pub split : judged_in (script form) ≡ here ++ ahead
    pub spelled : Spells here front []
    pub clear : Faultless here

  -- some form goes on with the word l after words that break no rule, and l is the first to break one: this one
  pub record Faulty (front : List Lexeme) (l : Lexeme) (fault : Fault) : Type 0 where
    pub form : F
    pub here : List Judged
    pub broken : Judged
    pub ahead : List Judged
    pub split : judged_in (script form) ≡ here ++ broken ∷ ahead
    pub spelled : Spells here front []
    pub clear : Faultless here
    pub word : sense l.kind ≡ broken.word
    pub is : broken.fault ≡ Some fault

  -- why the word l after the words of front is refused
  abbrev pub Reason : List Lexeme → Lexeme → Cause → Type 0
  Reason front l IllegalWord = (w : List ℕ) × (sense l.kind ≡ illegal w)
  Reason front l UnexpectedWord = ((w : List ℕ) → sense l.kind ≢ illegal w) × (Viable (front ++ l ∷ []) → ⊥)
  Reason front l WrongName = Faulty front l wrong_name
  Reason front l WrongVariable = Faulty front l wrong_variable
  Reason front l NoSuchCondition = Faulty front l no_such_condition
  Reason front l OverLimit = Faulty front l over_limit

  -- the refusal stands at the first word of `back`, or at the end of the text
  abbrev pub Stands : List Lexeme → List Lexeme → ℕ → Cause → ℕ → Type 0
  Stands front [] end cause place = (cause ≡ UnexpectedWord) × (place ≡ end)
  Stands front (l ∷ ls) end cause place = (place ≡ l.place) × Reason front l cause

  -- the first broken word of a text that ends at `end`: it is illegal, or else it cannot continue a form, or else it breaks the rule that
  -- its form lists for it
  pub record Broken (ls : List Lexeme) (end : ℕ) (cause : Cause) (place : ℕ) : Type 0 where
    pub front : List Lexeme
    pub back : List Lexeme
    pub split : ls ≡ front ++ back
    pub begun : Begun front
    pub stands : Stands front back end cause place

  -- only one answer fits the words: two forms that stand at the front ask for the same and leave the same words, and where
  -- none stands there, two refusals have the same cause and the same place
  pub record OneAnswer : Type 0 where
    pub taken : (ls : List Lexeme) (e f : E) (after left : List Lexeme) → Takes ls e after → Takes ls f left → (e ≡ f) × (after ≡ left)
    pub refused : (ls : List Lexeme) (end : ℕ) (c d : Cause) (p q : ℕ) → TakesNone ls → Broken ls end c p → Broken ls end d q → (c ≡ d) × (p ≡ q)

-- ---- what the calls share

-- a text may have at most 32,768 bytes
abbrev pub longest : ℕ
longest = 32768

-- a text that is too long is refused at byte 32,768, before anything is read
abbrev pub TooLong : ℕ → Refusal → Type 0
TooLong end x = (longest < end) × (x.cause ≡ OverLimit) × (x.place ≡ longest)

-- the next words are `(` and this symbol
abbrev pub comes_next : List ℕ → List Lexeme → Bool
comes_next head [] = false
comes_next head (l ∷ []) = false
comes_next head (l ∷ k ∷ ls) = is_open l.kind && is_symbol head k.kind
