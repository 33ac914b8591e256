-- How specific a rule is, with a mark for each variable that was met: what the code keeps for the list of them. Assumes nothing.
use Rattle.std.specs.Prelude.{ℕ, ◌+◌, Bool, true, false, cond, List, replicate, slice_index_or, slice_set}
use Rattle.rules.specs.Carried.{carried, sum_along}
use Rattle.rules.specs.Rules.{Term, constant, variable, Test, plain, compared, choice, FieldTest, Condition}
use Rattle.rules.specs.Specificity.{choice_counts}

-- no variable was met; a rule has at most sixteen
abbrev pub no_marks : List Bool
no_marks = replicate 16 false

-- a variable was met
abbrev pub mark_variable : List Bool → ℕ → List Bool
mark_variable ms x = slice_set ms x true

-- what a variable under no predicate counts
abbrev pub variable_counts : List Bool → ℕ → ℕ
variable_counts ms x = cond (slice_index_or ms x false) 1 0

abbrev pub mark_term : List Bool → Term → List Bool
mark_term ms (constant v) = ms
mark_term ms (variable x) = mark_variable ms x

abbrev pub marked_term_counts : List Bool → Term → ℕ
marked_term_counts ms (constant v) = 1
marked_term_counts ms (variable x) = variable_counts ms x

-- the marks after a test, and what it counts
abbrev pub mark_test : List Bool → Test → List Bool
mark_test ms (plain t) = mark_term ms t
mark_test ms (compared p t) = mark_term ms t
mark_test ms (choice vs) = ms

abbrev pub marked_test_counts : List Bool → Test → ℕ
marked_test_counts ms (plain t) = marked_term_counts ms t
marked_test_counts ms (compared p t) = 1
marked_test_counts ms (choice vs) = choice_counts vs

abbrev pub mark_field : List Bool → FieldTest → List Bool
mark_field ms t = mark_test ms t.test

abbrev pub marked_field_counts : List Bool → FieldTest → ℕ
marked_field_counts ms t = marked_test_counts ms t.test

-- the marks after tests, and what they count
abbrev pub mark_tests : List Bool → List FieldTest → List Bool
mark_tests ms ts = carried mark_field ms ts

abbrev pub marked_tests_count : List Bool → List FieldTest → ℕ
marked_tests_count ms ts = sum_along marked_field_counts mark_field ms ts

-- the marks after a condition, and what it counts
abbrev pub mark_condition : List Bool → Condition → List Bool
mark_condition ms c = mark_tests ms c.tests

abbrev pub marked_condition_counts : List Bool → Condition → ℕ
marked_condition_counts ms c = 1 + marked_tests_count ms c.tests

-- what conditions count
abbrev pub marked_conditions_count : List Bool → List Condition → ℕ
marked_conditions_count ms cs = sum_along marked_condition_counts mark_condition ms cs
