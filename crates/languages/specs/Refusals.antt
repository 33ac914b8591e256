-- The numbers of a reader's refusals. Assumes nothing.
use Rattle.std.specs.Prelude.{ℕ}
use Rattle.rules.specs.declared.refusal.NotTaken.{NotTaken}
use Rattle.rules.specs.declared.refusal.NotTaken.TheVariants.{Twice, TooMany}
use Rattle.languages.specs.declared.refusal.Cause.{Cause}
use Rattle.languages.specs.declared.refusal.Cause.TheVariants.{IllegalWord, UnexpectedWord, WrongName, WrongVariable, NoSuchCondition, OverLimit}

-- the number that a refusal is known by
abbrev pub cause_number : Cause → ℕ
cause_number IllegalWord = 1
cause_number UnexpectedWord = 2
cause_number WrongName = 3
cause_number WrongVariable = 4
cause_number NoSuchCondition = 5
cause_number OverLimit = 6

-- what can be wrong with a word that continues a form
pub data Fault : Type 0 where
  wrong_name wrong_variable no_such_condition over_limit : Fault

-- the cause that a fault is refused with
abbrev pub cause_of : Fault → Cause
cause_of wrong_name = WrongName
cause_of wrong_variable = WrongVariable
cause_of no_such_condition = NoSuchCondition
cause_of over_limit = OverLimit

-- the cause of a class or attribute that is not taken
abbrev pub class_cause : NotTaken → Cause
class_cause Twice = WrongName
class_cause TooMany = OverLimit
