-- What the calls that read declarations and commands answer. Assumes nothing.
use Rattle.std.specs.Prelude.{◌≡◌, ℕ, ◌≤◌, Bool, true, false, ◌⊎◌, List, [], ◌∷◌, ◌++◌, length, Some, None, Ok, Err, codes, Option, Result, ◌≢◌}
use Rattle.words.specs.declared.text.Words.{Words}
use Rattle.words.specs.Words.{Lexeme, rest, text_of}
use Rattle.rules.specs.Attributes.{Declared}
use Rattle.reader.specs.declared.form.Command.{Command}
use Rattle.languages.specs.declared.refusal.Refusal.{Refusal}
use Rattle.reader.specs.declared.form.Phase.{Phase}
use Rattle.reader.specs.declared.form.Phase.TheVariants.{Declaring, Commanding}
use Rattle.reader.specs.declared.form.Taken.{Taken}
use Rattle.languages.specs.Scripts.{Script}
use Rattle.reader.specs.Forms.{FormOf, Asked, declares, commands, declaration_script, command_script}
use Rattle.languages.specs.Languages.{Takes, TakesNone, Broken, longest, TooLong, comes_next}
use Rattle.reader.specs.Meaning.{act_of, entry_of}

-- the next words are `(` and `literalize`
abbrev pub declares_next : List Lexeme → Bool
declares_next ls = comes_next (codes "literalize") ls

-- the words of a form of a phase
abbrev pub script_of : (ph : Phase) → List Declared → List (List ℕ) → FormOf ph → Script Asked
script_of Declaring cs ns = declaration_script cs ns
script_of Commanding cs ns = command_script cs ns

-- reading a form of a phase from the words `before`: the answer, the names then and the words then left, of the same text: a form
-- exactly if one is there, and a refusal moves nothing
abbrev pub Reads : Phase → List Declared → List (List ℕ) → Words → Result Taken Refusal → List (List ℕ) → Words → Type 0
Reads ph cs ns before (Ok form) ms after =
    Takes (script_of ph cs ns) (rest before) (entry_of form, ms) (rest after) × (text_of after ≡ text_of before)
Reads ph cs ns before (Err x) ms after =
    (ms ≡ ns) × (after ≡ before)
    × TakesNone (script_of ph cs ns) (rest before) × Broken (script_of ph cs ns) (rest before) (length (text_of before)) x.cause x.place

-- reading a declaration from a text of `end` bytes: the answer, and the classes, the names and the words left then
abbrev pub ReadsDeclaration : ℕ → List Declared → List (List ℕ) → List Lexeme → Result Bool Refusal → List Declared → List (List ℕ) → List Lexeme → Type 0
ReadsDeclaration end cs ns ls (Ok true) ds ms after =
    (end ≤ longest) × (declares_next ls ≡ true) × ((c : Declared) × Takes (declaration_script cs ns) ls (declares c, ms) after × (ds ≡ cs ++ c ∷ []))
ReadsDeclaration end cs ns ls (Ok false) ds ms after =
    (end ≤ longest) × (declares_next ls ≡ false) × (ds ≡ cs) × (ms ≡ ns) × (after ≡ ls)
ReadsDeclaration end cs ns ls (Err x) ds ms after =
    (ds ≡ cs) × (ms ≡ ns) × (after ≡ ls)
    × (TooLong end x ⊎ ((end ≤ longest) × (declares_next ls ≡ true) × TakesNone (declaration_script cs ns) ls × Broken (declaration_script cs ns) ls end x.cause x.place))

-- reading a command
abbrev pub ReadsCommand : ℕ → List Declared → List (List ℕ) → List Lexeme → Result (Option Command) Refusal → List (List ℕ) → List Lexeme → Type 0
ReadsCommand end cs ns ls (Ok None) ms after = (end ≤ longest) × (ls ≡ []) × (ms ≡ ns) × (after ≡ ls)
ReadsCommand end cs ns ls (Ok (Some c)) ms after = (end ≤ longest) × Takes (command_script cs ns) ls (commands (act_of c), ms) after
ReadsCommand end cs ns ls (Err x) ms after =
    (ms ≡ ns) × (after ≡ ls)
    × (TooLong end x ⊎ ((end ≤ longest) × (ls ≢ []) × TakesNone (command_script cs ns) ls × Broken (command_script cs ns) ls end x.cause x.place))
