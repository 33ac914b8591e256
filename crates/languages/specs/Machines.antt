-- Reading word by word: steps, and which words a state takes. Assumes nothing.
use Rattle.std.specs.Prelude.{ℕ, List, [], ◌∷◌, ℤ, Some, None, Option}
use Rattle.words.specs.Kinds.{Kind, open', close', hat, minus, arrow, open_choice, close_choice, test, number, variable, symbol, illegal}
use Rattle.words.specs.Words.{Lexeme}
use Rattle.words.specs.declared.token.Predicate.{Predicate}
use Rattle.languages.specs.declared.refusal.Cause.{Cause}
use Rattle.languages.specs.declared.refusal.Cause.TheVariants.{IllegalWord, UnexpectedWord}
use Rattle.languages.specs.Refusals.{Fault, cause_of}
use Rattle.languages.specs.Senses.{sense}

-- what a word does: it leads on to a state, it ends the form, or it is refused
pub data Step (S E : Type 0) : Type 0 where
  onward : S → Step S E
  whole : E → Step S E
  fails : Cause → Step S E

-- refused where something is wrong
abbrev pub unless : {S E : Type 0} → Option Fault → Step S E → Step S E
unless None s = s
unless (Some f) s = fails (cause_of f)

-- ---- a state says what it takes, kind by kind, and then refuses the rest

-- the cause that a word is refused with where the form cannot go on with it
abbrev pub refused_with : Kind → Cause
refused_with (illegal w) = IllegalWord
refused_with k = UnexpectedWord

-- a word that no text may have, and a word that cannot continue the form
abbrev pub refuse : {S E : Type 0} → Kind → Step S E
refuse k = fails (refused_with k)

-- `(`, or else another word
abbrev pub on_open : {S E : Type 0} → Step S E → (Kind → Step S E) → Kind → Step S E
on_open x f open' = x
on_open x f k = f k

-- `)`, or else another word
abbrev pub on_close : {S E : Type 0} → Step S E → (Kind → Step S E) → Kind → Step S E
on_close x f close' = x
on_close x f k = f k

-- `^`, or else another word
abbrev pub on_hat : {S E : Type 0} → Step S E → (Kind → Step S E) → Kind → Step S E
on_hat x f hat = x
on_hat x f k = f k

-- `-`, or else another word
abbrev pub on_minus : {S E : Type 0} → Step S E → (Kind → Step S E) → Kind → Step S E
on_minus x f minus = x
on_minus x f k = f k

-- `-->`, or else another word
abbrev pub on_arrow : {S E : Type 0} → Step S E → (Kind → Step S E) → Kind → Step S E
on_arrow x f arrow = x
on_arrow x f k = f k

-- `<<`, or else another word
abbrev pub on_open_choice : {S E : Type 0} → Step S E → (Kind → Step S E) → Kind → Step S E
on_open_choice x f open_choice = x
on_open_choice x f k = f k

-- `>>`, or else another word
abbrev pub on_close_choice : {S E : Type 0} → Step S E → (Kind → Step S E) → Kind → Step S E
on_close_choice x f close_choice = x
on_close_choice x f k = f k

-- a predicate, or else another word
abbrev pub on_test : {S E : Type 0} → (Predicate → Step S E) → (Kind → Step S E) → Kind → Step S E
on_test x f (test p) = x p
on_test x f k = f k

-- a number, or else another word
abbrev pub on_number : {S E : Type 0} → (ℤ → Step S E) → (Kind → Step S E) → Kind → Step S E
on_number x f (number n w) = x n
on_number x f k = f k

-- a variable, or else another word
abbrev pub on_variable : {S E : Type 0} → (List ℕ → Step S E) → (Kind → Step S E) → Kind → Step S E
on_variable x f (variable w) = x w
on_variable x f k = f k

-- a symbol, or else another word
abbrev pub on_symbol : {S E : Type 0} → (List ℕ → Step S E) → (Kind → Step S E) → Kind → Step S E
on_symbol x f (symbol w) = x w
on_symbol x f k = f k

-- ---- reading word after word

-- how a form's reading ends: it was taken, with the words left, or it stopped, before the words left
pub data Outcome (E : Type 0) : Type 0 where
  taken : E → List Lexeme → Outcome E
  stopped : Cause → List Lexeme → Outcome E

-- by what a step is
abbrev pub on_step : {S E X : Type 0} → Step S E → (S → X) → (E → X) → (Cause → X) → X
on_step (onward s) f g h = f s
on_step (whole e) f g h = g e
on_step (fails c) f g h = h c

abbrev pub run : {S E : Type 0} → (S → Kind → Step S E) → S → List Lexeme → Outcome E
run turned s [] = stopped UnexpectedWord []
run turned s (l ∷ ls) = on_step (turned s (sense l.kind)) (λ t. run turned t ls) (λ e. taken e ls) (λ c. stopped c (l ∷ ls))

-- the first byte of the words, or the end of the text where there is none
abbrev pub place_of : ℕ → List Lexeme → ℕ
place_of end [] = end
place_of end (l ∷ ls) = l.place
