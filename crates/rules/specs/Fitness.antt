-- When a rule is fit to be matched and fired. Assumes nothing.
use Rattle.std.specs.Prelude.{ℕ, ◌-◌, Bool, true, false, cond, ◌&&◌, ◌||◌, List, [], ◌∷◌, ◌++◌, length, ◌==◌, nat_le, slice_index_or}
use Rattle.words.specs.declared.token.Predicate.{Predicate}
use Rattle.words.specs.declared.token.Predicate.TheVariants.{Equal, Unequal, Less, AtMost, Greater, AtLeast, SameKind}
use Rattle.rules.specs.Attributes.{Declared, new_class}
use Rattle.rules.specs.Carried.{carried, all_along}
use Rattle.rules.specs.Rules.{Term, constant, variable, Test, plain, compared, choice, FieldTest, Condition, Setting, Action, makes, modifies, removes, halts}

-- whether a variable is one of these
abbrev pub has : List ℕ → ℕ → Bool
has [] x = false
has (y ∷ ys) x = y == x || has ys x

-- the variables of a term and of a test
abbrev pub term_variables : Term → List ℕ
term_variables (constant v) = []
term_variables (variable x) = x ∷ []

abbrev pub test_variables : Test → List ℕ
test_variables (plain t) = term_variables t
test_variables (compared p t) = term_variables t
test_variables (choice vs) = []

-- ---- conditions

-- the field is an attribute's; field 0 is the class itself
abbrev pub within : Declared → ℕ → Bool
within c f = nat_le 1 f && nat_le f (length c.attributes)

-- whether a variable may stand under a predicate, given whether it has a value: it gets one under `=` only
abbrev pub met_under : Predicate → Bool → Bool
met_under Equal known = true
met_under Unequal known = known
met_under Less known = known
met_under AtMost known = known
met_under Greater known = known
met_under AtLeast known = known
met_under SameKind known = known

abbrev pub term_met : Predicate → List ℕ → Term → Bool
term_met p known (constant v) = true
term_met p known (variable x) = met_under p (has known x)

-- a variable is met first under no predicate or under `=`; `known` has those that were met
abbrev pub test_met : List ℕ → Test → Bool
test_met known (plain t) = true
test_met known (compared p t) = term_met p known t
test_met known (choice vs) = true

-- a test of an element of the class
abbrev pub fit_test : Declared → List ℕ → FieldTest → Bool
fit_test c known t = within c t.field && test_met known t.test

-- the variables that are met after a test
abbrev pub also_test : List ℕ → FieldTest → List ℕ
also_test known t = known ++ test_variables t.test

abbrev pub fit_tests : Declared → List ℕ → List FieldTest → Bool
fit_tests c known ts = all_along (fit_test c) also_test known ts

-- the variables that have a value after a condition; a negated one gives none
abbrev pub bound_after : List ℕ → Condition → List ℕ
bound_after known c = cond c.negated known (carried also_test known c.tests)

abbrev pub fit_condition : List ℕ → Condition → Bool
fit_condition known c = fit_tests c.class known c.tests

abbrev pub fit_conditions : List ℕ → List Condition → Bool
fit_conditions known cs = all_along fit_condition bound_after known cs

-- the unnegated conditions in their order
abbrev pub unnegated : List Condition → List Condition
unnegated [] = []
unnegated (c ∷ cs) = cond c.negated (unnegated cs) (c ∷ unnegated cs)

-- ---- actions

-- the variables that have a value in every instantiation: those of the unnegated conditions
abbrev pub bound_by : List Condition → List ℕ
bound_by cs = carried bound_after [] cs

-- a value that an action can use
abbrev pub fit_term : List ℕ → Term → Bool
fit_term known (constant v) = true
fit_term known (variable x) = has known x

abbrev pub fit_settings : Declared → List ℕ → List Setting → Bool
fit_settings c known [] = true
fit_settings c known (s ∷ ss) = (within c s.field && fit_term known s.value) && fit_settings c known ss

-- the number names an unnegated condition, counted from 1
abbrev pub names_condition : List Condition → ℕ → Bool
names_condition cs k = nat_le 1 k && nat_le k (length (unnegated cs))

-- the class of the unnegated condition with this number; one without attributes where there is none
abbrev pub condition_class : List Condition → ℕ → Declared
condition_class cs k = (slice_index_or (unnegated cs) (k - 1) (record { negated = false; class = new_class 0; tests = [] })).class

abbrev pub fit_action : List Condition → Action → Bool
fit_action cs (makes c ss) = fit_settings c (bound_by cs) ss
fit_action cs (modifies k ss) = names_condition cs k && fit_settings (condition_class cs k) (bound_by cs) ss
fit_action cs (removes k) = names_condition cs k
fit_action cs halts = true

abbrev pub fit_actions : List Condition → List Action → Bool
fit_actions cs [] = true
fit_actions cs (a ∷ as') = fit_action cs a && fit_actions cs as'
