-- The sums of sizes as the code adds them up. Assumes nothing.
use Rattle.std.proofs.Common.{◌≡◌, ◌+◌, List, [], ◌∷◌, vec_items, vec_len, sum_by, sym, refl, ap, ◌∙◌}
use Rattle.std.specs.List.{flat_map}
use Rattle.std.proofs.lemmas.List.Sums.{sum_by-append}
use Rattle.std.proofs.lemmas.List.Recursion.{is_sum_by}
use Rattle.rules.specs.Rules.{test_of, field_test_of, field_tests_of, conditions_of, action_of, actions_of}
use Rattle.rules.specs.Sizes.{tests_in, test_constants, tests_constants, constants_in, action_settings, settings_in}
use Rattle.rules.specs.declared.condition.Condition.{Condition}
use Rattle.rules.specs.declared.condition.FieldTest.{FieldTest}
use Rattle.rules.specs.declared.action.Action.{Action}
use Rattle.rules.proofs.Sums.{counted_vec}

pub tests-sum : (cs : List Condition) → tests_in (conditions_of cs) ≡ sum_by (λ c. 1 + vec_len c.tests) cs
tests-sum = is_sum_by (λ l. tests_in (conditions_of l)) (λ c. 1 + vec_len c.tests) refl (λ c cs. ap (λ n. 1 + n + tests_in (conditions_of cs)) (sym (counted_vec field_test_of c.tests)))

tests_sum : (ts : List FieldTest) → tests_constants (field_tests_of ts) ≡ sum_by (λ t. test_constants (test_of t.test)) ts
tests_sum = is_sum_by (λ l. tests_constants (field_tests_of l)) (λ t. test_constants (test_of t.test)) refl (λ t ts. refl)

pub constants-sum : (cs : List Condition) → constants_in (conditions_of cs) ≡ sum_by (λ t. test_constants (test_of t.test)) (flat_map (λ c. vec_items c.tests) cs)
constants-sum [] = refl
constants-sum (c ∷ cs) =
    let ts = vec_items c.tests in
    (λ i. tests_sum ts i + constants-sum cs i)
    ∙ sym (sum_by-append (λ t. test_constants (test_of t.test)) ts (flat_map (λ c. vec_items c.tests) cs))

pub settings-sum : (as' : List Action) → settings_in (actions_of as') ≡ sum_by (λ a. action_settings (action_of a)) as'
settings-sum = is_sum_by (λ l. settings_in (actions_of l)) (λ a. action_settings (action_of a)) refl (λ a as'. refl)
