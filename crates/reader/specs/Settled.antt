-- Only one answer fits the words. Assumes nothing.
use Rattle.std.specs.Prelude.{ℕ, List}
use Rattle.words.specs.Words.{Lexeme}
use Rattle.rules.specs.Attributes.{Declared}
use Rattle.languages.specs.declared.refusal.Cause.{Cause}
use Rattle.languages.specs.declared.refusal.Cause.TheVariants.{IllegalWord, UnexpectedWord, WrongName, WrongVariable, NoSuchCondition, OverLimit}
use Rattle.languages.specs.Languages.{OneAnswer, Broken}
use Rattle.reader.specs.declared.form.Phase.{Phase}
use Rattle.reader.specs.Reading.{script_of}

-- what a declaration or a command may be refused for: its causes are those with the numbers 1, 2, 3 and 6
abbrev pub Due : Cause → Type 0
Due IllegalWord = Unit {0}
Due UnexpectedWord = Unit {0}
Due WrongName = Unit {0}
Due WrongVariable = ⊥
Due NoSuchCondition = ⊥
Due OverLimit = Unit {0}

-- whatever is declared and named, in each phase
pub record Settled : Type 0 where
  -- of two forms that stand at the front of the words, both mean the same, leave the same names and the same words; where none stands
  -- there, two refusals have the same cause and the same place
  pub one_answer : (ph : Phase) (cs : List Declared) (ns : List (List ℕ)) → OneAnswer (script_of ph cs ns)
  -- no refusal has another cause
  pub due : (ph : Phase) (cs : List Declared) (ns : List (List ℕ)) (ls : List Lexeme) (end : ℕ) (c : Cause) (p : ℕ) → Broken (script_of ph cs ns) ls end c p → Due c
