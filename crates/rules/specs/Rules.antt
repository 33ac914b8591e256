-- What a rule says, by the numbers of its symbols. Assumes nothing.
use Rattle.std.specs.Prelude.{ℕ, Bool, List, map, vec_items}
use Rattle.words.specs.declared.token.Predicate.{Predicate}
use Rattle.values.specs.declared.value.Value.{Value}
use Rattle.rules.specs.Attributes.{Declared, declared}
use Rattle.rules.specs.declared.condition.Test.{Test as RustTest}
use Rattle.rules.specs.declared.condition.Test.TheVariants.{Constant, Variable, Compare, CompareVariable, Choice}
use Rattle.rules.specs.declared.condition.FieldTest.{FieldTest as RustFieldTest}
use Rattle.rules.specs.declared.condition.Condition.{Condition as RustCondition}
use Rattle.rules.specs.declared.action.Term.{Term as RustTerm}
use Rattle.rules.specs.declared.action.Term.TheVariants.{Constant as TermConstant, Variable as TermVariable}
use Rattle.rules.specs.declared.action.Setting.{Setting as RustSetting}
use Rattle.rules.specs.declared.action.Action.{Action as RustAction}
use Rattle.rules.specs.declared.action.Action.TheVariants.{Make, Modify, Remove, Halt}

-- a constant, or a variable by its number in the rule
pub data Term : Type 0 where
  constant : Value → Term
  variable : ℕ → Term

-- what is asked of one value: to be what the term is, to stand in a relation to it, or to be one of some constants
pub data Test : Type 0 where
  plain : Term → Test
  compared : Predicate → Term → Test
  choice : List Value → Test

-- a test, and the field whose value it is asked of
pub record FieldTest : Type 0 where
  pub field : ℕ
  pub test : Test

-- an element passes if it is of the class and passes every test; a negated condition holds where no element passes
pub record Condition : Type 0 where
  pub negated : Bool
  pub class : Declared
  pub tests : List FieldTest

-- the value that a field gets
pub record Setting : Type 0 where
  pub field : ℕ
  pub value : Term

-- what a firing does; modify and remove name the element of an unnegated condition, counted from 1
pub data Action : Type 0 where
  makes : Declared → List Setting → Action
  modifies : ℕ → List Setting → Action
  removes : ℕ → Action
  halts : Action

-- a rule: the symbol that names it, and its conditions and actions in text order
pub record Rule : Type 0 where
  pub name : ℕ
  pub conditions : List Condition
  pub actions : List Action

-- ---- what the code's own values mean

abbrev pub test_of : RustTest → Test
test_of (Constant v) = plain (constant v)
test_of (Variable x) = plain (variable x.number)
test_of (Compare p v) = compared p (constant v)
test_of (CompareVariable p x) = compared p (variable x.number)
test_of (Choice vs) = choice (vec_items vs)

abbrev pub field_test_of : RustFieldTest → FieldTest
field_test_of t = record { field = t.field.number; test = test_of t.test }

abbrev pub field_tests_of : List RustFieldTest → List FieldTest
field_tests_of ts = map field_test_of ts

abbrev pub condition_of : RustCondition → Condition
condition_of c = record { negated = c.negated; class = declared c.class; tests = field_tests_of (vec_items c.tests) }

abbrev pub term_of : RustTerm → Term
term_of (TermConstant v) = constant v
term_of (TermVariable x) = variable x.number

abbrev pub setting_of : RustSetting → Setting
setting_of s = record { field = s.field.number; value = term_of s.value }

abbrev pub action_of : RustAction → Action
action_of (Make c ss) = makes (declared c) (map setting_of (vec_items ss))
action_of (Modify k ss) = modifies k (map setting_of (vec_items ss))
action_of (Remove k) = removes k
action_of Halt = halts

-- the conditions and the actions of a rule
abbrev pub conditions_of : List RustCondition → List Condition
conditions_of cs = map condition_of cs

abbrev pub actions_of : List RustAction → List Action
actions_of as' = map action_of as'
