-- What the call that reads a production answers. Assumes nothing.
use Rattle.std.specs.Prelude.{◌≡◌, ℕ, ◌≤◌, Bool, true, false, ◌⊎◌, List, [], ◌∷◌, ◌++◌, Ok, Err, codes, Result, length}
use Rattle.words.specs.Words.{Lexeme, rest, text_of}
use Rattle.words.specs.declared.text.Words.{Words}
use Rattle.rules.specs.Attributes.{Declared}
use Rattle.rules.specs.Rules.{Rule}
use Rattle.languages.specs.Languages.{Takes, TakesNone, Broken, OneAnswer, longest, TooLong, comes_next}
use Rattle.languages.specs.Machines.{Outcome, taken, stopped, place_of}
use Rattle.languages.specs.Naming.{Grows}
use Rattle.productions.specs.declared.draft.Draft.{Draft}
use Rattle.productions.specs.declared.trouble.Trouble.{Trouble}
use Rattle.productions.specs.declared.trouble.Trouble.TheVariants.{Refused, NoMemory}
use Rattle.productions.specs.Sofar.{rule_read}
use Rattle.productions.specs.Spelling.{Asked, production_script}
use Rattle.productions.specs.Meaning.{sofar_of}

-- the next words are `(` and `p`
abbrev pub produces_next : List Lexeme → Bool
produces_next ls = comes_next (codes "p") ls

-- reading a production from a text of `end` bytes, where the classes are cs and the rules so far rs: the answer, and the rules, the
-- names and the words left then. A production is entered exactly if one that keeps every rule is there, unless there is no memory for
-- it; whatever else is answered moves nothing
abbrev pub ReadsProduction : ℕ → List Declared → List Rule → List (List ℕ) → List Lexeme → Result Bool Trouble → List Rule → List (List ℕ) → List Lexeme → Type 0
ReadsProduction end cs rs ns ls (Ok true) ts ms after =
    (end ≤ longest) × (produces_next ls ≡ true) × ((r : Rule) × Takes (production_script cs rs ns) ls (r, ms) after × (ts ≡ rs ++ r ∷ []))
ReadsProduction end cs rs ns ls (Ok false) ts ms after =
    (end ≤ longest) × (produces_next ls ≡ false) × (ts ≡ rs) × (ms ≡ ns) × (after ≡ ls)
ReadsProduction end cs rs ns ls (Err (Refused x)) ts ms after =
    (ts ≡ rs) × (ms ≡ ns) × (after ≡ ls)
    × (TooLong end x ⊎ ((end ≤ longest) × (produces_next ls ≡ true) × TakesNone (production_script cs rs ns) ls × Broken (production_script cs rs ns) ls end x.cause x.place))
ReadsProduction end cs rs ns ls (Err NoMemory) ts ms after =
    (end ≤ longest) × (produces_next ls ≡ true) × (ts ≡ rs) × (ms ≡ ns) × (after ≡ ls)

-- whatever is declared, entered and named, only one answer fits when a production is read
abbrev pub ProductionsSettled : Type 0
ProductionsSettled = (cs : List Declared) (rs : List Rule) (ns : List (List ℕ)) → OneAnswer (production_script cs rs ns)

-- ---- inside the call

-- an answer of the code is the outcome of the reading, where the names are then ms, the draft d and the words left `after`
abbrev pub Ran : ℕ → Result (Unit {0}) Trouble → List (List ℕ) → Draft → List Lexeme → Outcome Asked → Type 0
Ran end (Ok _) ms d after o = o ≡ taken (rule_read (sofar_of ms d), ms) after
Ran end (Err (Refused x)) ms d after o = (back : List Lexeme) × (o ≡ stopped x.cause back) × (x.place ≡ place_of end back)
Ran end (Err NoMemory) ms d after o = Unit {0}

-- and the names, which were ns, are only added to, and the words left are of the same text as those before
abbrev pub Reads : Words → List (List ℕ) → Result (Unit {0}) Trouble → List (List ℕ) → Draft → Words → Outcome Asked → Type 0
Reads before ns r ms d after o = Ran (length (text_of before)) r ms d (rest after) o × Grows ns ms × (text_of after ≡ text_of before)

-- a draft is the answer for the words ls of a text of `end` bytes, and the names and the words left then
abbrev pub Drafted : ℕ → List Declared → List Rule → List (List ℕ) → List Lexeme → Result Draft Trouble → List (List ℕ) → List Lexeme → Type 0
Drafted end cs rs ns ls (Ok d) ms after = Takes (production_script cs rs ns) ls (rule_read (sofar_of ms d), ms) after
Drafted end cs rs ns ls (Err (Refused x)) ms after =
    (ms ≡ ns) × (after ≡ ls) × TakesNone (production_script cs rs ns) ls × Broken (production_script cs rs ns) ls end x.cause x.place
Drafted end cs rs ns ls (Err NoMemory) ms after = (ms ≡ ns) × (after ≡ ls)

-- reading a draft: the answer, and the names and the words left then, which are of the same text as those before
abbrev pub Drafts : List Declared → List Rule → Words → List (List ℕ) → Result Draft Trouble → List (List ℕ) → Words → Type 0
Drafts cs rs before ns r ms after = Drafted (length (text_of before)) cs rs ns (rest before) r ms (rest after) × (text_of after ≡ text_of before)
