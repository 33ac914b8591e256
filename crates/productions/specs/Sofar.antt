-- What was read of a production so far, and what can be wrong with the next word. Assumes nothing.
use Rattle.std.specs.Prelude.{ℕ, ◌+◌, Bool, true, false, cond, not, ◌&&◌, ◌||◌, List, [], ◌∷◌, ◌++◌, length, ℤ, pos, negsuc, is_some, Some, None, Option, ◌==◌, nat_le, slice_index_or}
use Rattle.std.specs.Option.{unwrap_or}
use Rattle.std.specs.Str.{bytes_eq}
use Rattle.words.specs.Kinds.{Kind, variable}
use Rattle.words.specs.declared.token.Predicate.{Predicate}
use Rattle.words.specs.declared.token.Predicate.TheVariants.{Equal, Unequal, Less, AtMost, Greater, AtLeast, SameKind}
use Rattle.values.specs.Firsts.{first_from}
use Rattle.values.specs.Naming.{answer_intern}
use Rattle.values.specs.Spelling.{nameable}
use Rattle.rules.specs.Attributes.{Declared}
use Rattle.rules.specs.Bases.{rule_named}
use Rattle.rules.specs.Fitness.{unnegated, names_condition}
use Rattle.rules.specs.Rules.{Term, constant, variable as variable', Test, Condition, Setting, Action, makes, modifies, Rule}
use Rattle.rules.specs.Sizes.{Size, size}
use Rattle.languages.specs.Refusals.{Fault, wrong_name, wrong_variable, no_such_condition, over_limit}
use Rattle.languages.specs.Naming.{unnameable, constant_word, value_of, after_value, value_fault}
use Rattle.productions.specs.Forms.{Operand, fixed, named}

-- a variable, and where it was first met: in a negated condition or not, and in which, counted from 0
pub record Met : Type 0 where
  pub word : List ℕ
  pub negated : Bool
  pub condition : ℕ

-- what was read so far: the names, the production's own name, its whole conditions and actions, its variables in the order
-- in which they were met, and how much of the base's limits is used up, the rules before it included
pub record Sofar : Type 0 where
  pub names : List (List ℕ)
  pub name : ℕ
  pub conditions : List Condition
  pub variables : List Met
  pub actions : List Action
  pub used : Size

-- ---- one thing more

abbrev pub with_names : Sofar → List (List ℕ) → Sofar
with_names d ns = record { names = ns; name = d.name; conditions = d.conditions; variables = d.variables; actions = d.actions; used = d.used }

abbrev pub with_variables : Sofar → List Met → Sofar
with_variables d vs = record { names = d.names; name = d.name; conditions = d.conditions; variables = vs; actions = d.actions; used = d.used }

abbrev pub with_condition : Sofar → Condition → Sofar
with_condition d c = record { names = d.names; name = d.name; conditions = d.conditions ++ c ∷ []; variables = d.variables; actions = d.actions; used = d.used }

abbrev pub with_action : Sofar → Action → Sofar
with_action d a = record { names = d.names; name = d.name; conditions = d.conditions; variables = d.variables; actions = d.actions ++ a ∷ []; used = d.used }

abbrev pub with_used : Sofar → Size → Sofar
with_used d u = record { names = d.names; name = d.name; conditions = d.conditions; variables = d.variables; actions = d.actions; used = u }

-- one test, one constant of a choice, and one setting more
abbrev pub one_test : Sofar → Sofar
one_test d = with_used d (size (d.used.tests + 1) d.used.constants d.used.settings)

abbrev pub one_constant : Sofar → Sofar
one_constant d = with_used d (size d.used.tests (d.used.constants + 1) d.used.settings)

abbrev pub one_setting : Sofar → Sofar
one_setting d = with_used d (size d.used.tests d.used.constants (d.used.settings + 1))

-- a condition with one test more
abbrev pub with_test : Condition → ℕ → Test → Condition
with_test c f t = record { negated = c.negated; class = c.class; tests = c.tests ++ record { field = f; test = t } ∷ [] }

-- the rule that was read
abbrev pub rule_read : Sofar → Rule
rule_read d = record { name = d.name; conditions = d.conditions; actions = d.actions }

-- ---- limits

-- there are as many as there may be
abbrev pub full : ℕ → ℕ → Option Fault
full most n = cond (nat_le most n) (Some over_limit) None

-- a ninth condition; or a seventh unnegated one
abbrev pub negated_fault : Sofar → Option Fault
negated_fault d = full 8 (length d.conditions)

abbrev pub condition_fault : Sofar → Option Fault
condition_fault d = cond (nat_le 8 (length d.conditions) || nat_le 6 (length (unnegated d.conditions))) (Some over_limit) None

-- a ninth action
abbrev pub action_fault : Sofar → Option Fault
action_fault d = full 8 (length d.actions)

-- in the whole base a test after the 512th, a constant of a choice after the 256th, a setting after the 256th
abbrev pub test_fault : Sofar → Option Fault
test_fault d = full 512 d.used.tests

abbrev pub chosen_fault : Sofar → Option Fault
chosen_fault d = full 256 d.used.constants

abbrev pub setting_fault : Sofar → Option Fault
setting_fault d = full 256 d.used.settings

-- ---- names and numbers

-- a rule has the name with this number
abbrev pub rule_at : List Rule → Option ℕ → Bool
rule_at rs None = false
rule_at rs (Some i) = rule_named rs i

-- the name of a production: a rule has the number that the symbol has or gets; then one production too many, or no name can be
-- given
abbrev pub name_fault : List Rule → List (List ℕ) → List ℕ → Option Fault
name_fault rs ns w =
    cond (rule_at rs (answer_intern ns w)) (Some wrong_name)
    (cond (nat_le 64 (length rs) || unnameable ns w) (Some over_limit) None)

-- a written number as a condition's; below 1 it names none
abbrev pub ordinal : ℤ → ℕ
ordinal (pos n) = n
ordinal (negsuc n) = 0

-- a number that names no unnegated condition
abbrev pub unnumbered : List Condition → ℤ → Option Fault
unnumbered cs n = cond (names_condition cs (ordinal n)) None (Some no_such_condition)

-- and so among those that were read
abbrev pub ordinal_fault : Sofar → ℤ → Option Fault
ordinal_fault d n = unnumbered d.conditions n

-- ---- variables

-- the number of a variable that was met: its place among them
abbrev pub first_met : List Met → List ℕ → Option ℕ
first_met vs w = first_from (λ v. bytes_eq v.word w) 0 vs

-- no variable
abbrev pub nobody : Met
nobody = record { word = []; negated = false; condition = 0 }

-- first met in a negated condition that is not this one
abbrev pub strayed : Met → ℕ → Bool
strayed v n = v.negated && not (v.condition == n)

-- what is wrong with a variable in the condition n, as it was found among those that were met, where `binds` says whether it may
-- be met first here: it strayed from a negated condition; it is met first under a predicate other than `=`; then it is a
-- seventeenth, or too long
abbrev pub met_fault_among : List Met → ℕ → Bool → List ℕ → Option ℕ → Option Fault
met_fault_among vs n binds w (Some i) = cond (strayed (slice_index_or vs i nobody) n) (Some wrong_variable) None
met_fault_among vs n binds w None = cond binds (cond (nat_le 16 (length vs) || not (nameable w)) (Some over_limit) None) (Some wrong_variable)

abbrev pub variable_fault : Sofar → Bool → List ℕ → Option Fault
variable_fault d binds w = met_fault_among d.variables (length d.conditions) binds w (first_met d.variables w)

-- what is wrong with a variable in an action, as it was found: no unnegated condition has it
abbrev pub unbound_among : List Met → Option ℕ → Option Fault
unbound_among vs (Some i) = cond (slice_index_or vs i nobody).negated (Some wrong_variable) None
unbound_among vs None = Some wrong_variable

abbrev pub unbound_fault : Sofar → List ℕ → Option Fault
unbound_fault d w = unbound_among d.variables (first_met d.variables w)

-- the number of a variable, a new one behind the others
abbrev pub number_among : List Met → List ℕ → ℕ
number_among vs w = unwrap_or (first_met vs w) (length vs)

-- the variables with this one among them, which is met in the condition n
abbrev pub met_too : List Met → Bool → ℕ → List ℕ → List Met
met_too vs negated n w = cond (is_some (first_met vs w)) vs (vs ++ record { word = w; negated = negated; condition = n } ∷ [])

abbrev pub variable_number : Sofar → List ℕ → ℕ
variable_number d w = number_among d.variables w

abbrev pub with_variable : Sofar → Bool → List ℕ → List Met
with_variable d negated w = met_too d.variables negated (length d.conditions) w

-- ---- operands

-- the word that spells an operand
abbrev pub operand_word : Operand → Kind
operand_word (fixed c) = constant_word c
operand_word (named w) = variable w

-- what the operand is in the rule
abbrev pub term_for : Sofar → Operand → Term
term_for d (fixed c) = constant (value_of d.names c)
term_for d (named w) = variable' (variable_number d w)

-- in a condition: what is wrong with it, and what was read after it
abbrev pub operand_fault : Sofar → Bool → Operand → Option Fault
operand_fault d binds (fixed c) = value_fault d.names c
operand_fault d binds (named w) = variable_fault d binds w

abbrev pub after_operand : Sofar → Bool → Operand → Sofar
after_operand d negated (fixed c) = with_names d (after_value d.names c)
after_operand d negated (named w) = with_variables d (with_variable d negated w)

-- in an action
abbrev pub given_fault : Sofar → Operand → Option Fault
given_fault d (fixed c) = value_fault d.names c
given_fault d (named w) = unbound_fault d w

abbrev pub after_given : Sofar → Operand → Sofar
after_given d (fixed c) = with_names d (after_value d.names c)
after_given d (named w) = d

-- under `=`, as under no predicate, a variable may be met first
abbrev pub binding : Predicate → Bool
binding Equal = true
binding Unequal = false
binding Less = false
binding AtMost = false
binding Greater = false
binding AtLeast = false
binding SameKind = false

-- ---- actions

-- an action that gets settings: its class, and which it is
pub data Acting : Type 0 where
  on_make : Declared → Acting
  on_modify : ℕ → Declared → Acting

abbrev pub acting_class : Acting → Declared
acting_class (on_make c) = c
acting_class (on_modify k c) = c

abbrev pub action_with : Acting → List Setting → Action
action_with (on_make c) ss = makes c ss
action_with (on_modify k c) ss = modifies k ss
