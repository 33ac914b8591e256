-- The marks of the code and the variables that were met. Assumes nothing.
use Rattle.std.proofs.Common.{◌≡◌, ℕ, ◌+◌, ◌<◌, ◌≤◌, Bool, true, false, cond, ◌||◌, eqb, List, [], ◌∷◌, ◌++◌, length, get_or, set, vec_items, sym, refl, ap, ◌∙◌, arith, length-set, get_or-set_other, get_or-set_same, eqb-true}
use Rattle.std.proofs.Math.Bool.{or-false, or-true, or_assoc}
use Rattle.std.proofs.lemmas.List.{append-nil, get_or-replicate}
use Rattle.std.proofs.lemmas.Bool.{cond_both, eqb-false}
use Rattle.values.specs.declared.value.Value.{Value}
use Rattle.rules.specs.Carried.{carried, sum_along}
use Rattle.rules.specs.Fitness.{has, test_variables, also_test}
use Rattle.rules.specs.Marks.{no_marks, mark_test, marked_test_counts, mark_tests, marked_tests_count, marked_conditions_count}
use Rattle.rules.specs.Rules.{Test, plain, compared, choice, constant, variable, FieldTest, Condition, test_of, field_tests_of, conditions_of}
use Rattle.rules.specs.Sizes.{test_constants, tests_constants, tests_in, constants_in}
use Rattle.rules.specs.Specificity.{choice_counts, test_counts, condition_counts, met_after, specificity_of}
use Rattle.rules.specs.declared.condition.Test.{Test as RustTest}
use Rattle.rules.specs.declared.condition.Test.TheVariants.{Constant, Variable, Compare, CompareVariable, Choice}
use Rattle.rules.specs.declared.condition.FieldTest.{FieldTest as RustFieldTest}
use Rattle.rules.specs.declared.condition.Condition.{Condition as RustCondition}

-- a variable is marked where it was met
abbrev Agrees : List Bool → List ℕ → Type 0
Agrees ms met = (length ms ≡ 16) × ((y : ℕ) → y < 16 → get_or ms y false ≡ has met y)

has_more : (ks : List ℕ) (x y : ℕ) → has (ks ++ x ∷ []) y ≡ (has ks y || eqb x y)
has_more [] x y = or-false (eqb x y)
has_more (k ∷ ks) x y = ap (λ b. eqb k y || b) (has_more ks x y) ∙ sym (or_assoc (eqb k y) (has ks y) (eqb x y))

-- one variable more is met
mark_agrees : (ms : List Bool) (met : List ℕ) (x : ℕ) → x < 16 → Agrees ms met → Agrees (set ms x true) (met ++ x ∷ [])
mark_agrees ms met x h a = (length-set ms x true ∙ a.0, λ y g. at y g (eqb x y) refl)
  where
    at : (y : ℕ) → y < 16 → (b : Bool) → eqb x y ≡ b → get_or (set ms x true) y false ≡ has (met ++ x ∷ []) y
    at y g true e =
        let same : x ≡ y = eqb-true x y e in
        let inside : x < length ms = omega (arith, a.0) in
        ap (λ z. get_or (set ms x true) z false) (sym same)
        ∙ get_or-set_same ms x true false inside
        ∙ sym (has_more met x y ∙ ap (λ b. has met y || b) e ∙ or-true (has met y))
    at y g false e =
        get_or-set_other ms x y true false (λ s. eqb-false x y e (sym s))
        ∙ a.1 y g
        ∙ sym (has_more met x y ∙ ap (λ b. has met y || b) e ∙ or-false (has met y))

-- none more
same_agrees : (ms : List Bool) (met : List ℕ) → Agrees ms met → Agrees ms (met ++ [])
same_agrees ms met a = (a.0, λ y g. a.1 y g ∙ ap (λ l. has l y) (sym (append-nil met)))

test-marks : (t : RustTest) (ms : List Bool) (met : List ℕ) → Agrees ms met → Agrees (mark_test ms (test_of t)) (met ++ test_variables (test_of t))
test-marks (Constant v) ms met a = same_agrees ms met a
test-marks (Variable x) ms met a = mark_agrees ms met x.number x.ok a
test-marks (Compare p v) ms met a = same_agrees ms met a
test-marks (CompareVariable p x) ms met a = mark_agrees ms met x.number x.ok a
test-marks (Choice vs) ms met a = same_agrees ms met a

test-agrees : (t : RustTest) (ms : List Bool) (met : List ℕ) → Agrees ms met → marked_test_counts ms (test_of t) ≡ test_counts met (test_of t)
test-agrees (Constant v) ms met a = refl
test-agrees (Variable x) ms met a = ap (λ b. cond b 1 0) (a.1 x.number x.ok)
test-agrees (Compare p v) ms met a = refl
test-agrees (CompareVariable p x) ms met a = refl
test-agrees (Choice vs) ms met a = refl

tests_agree : (ts : List RustFieldTest) (ms : List Bool) (met : List ℕ) → Agrees ms met → (marked_tests_count ms (field_tests_of ts) ≡ sum_along (λ k t. test_counts k t.test) also_test met (field_tests_of ts)) × Agrees (mark_tests ms (field_tests_of ts)) (carried also_test met (field_tests_of ts))
tests_agree [] ms met a = (refl, a)
tests_agree (t ∷ ts) ms met a =
    let here = test-agrees t.test ms met a in
    let rest = tests_agree ts (mark_test ms (test_of t.test)) (met ++ test_variables (test_of t.test)) (test-marks t.test ms met a) in
    (omega (arith, here, rest.0), rest.1)

conditions-agree : (cs : List RustCondition) (ms : List Bool) (met : List ℕ) → Agrees ms met → marked_conditions_count ms (conditions_of cs) ≡ sum_along condition_counts met_after met (conditions_of cs)
conditions-agree [] ms met a = refl
conditions-agree (c ∷ cs) ms met a =
    let here = tests_agree (vec_items c.tests) ms met a in
    let rest = conditions-agree cs (mark_tests ms (field_tests_of (vec_items c.tests))) (carried also_test met (field_tests_of (vec_items c.tests))) here.1 in
    omega (arith, here.0, rest)

-- what the code counts by its marks is the specificity
pub marks_agree : (cs : List RustCondition) → marked_conditions_count no_marks (conditions_of cs) ≡ specificity_of (conditions_of cs)
marks_agree cs = conditions-agree cs no_marks [] (refl, λ y g. get_or-replicate 16 y false false g)

-- ---- how much conditions can count

-- a choice counts no more than its constants and one
choice-bound : (vs : List Value) → choice_counts vs ≤ 1 + length vs
choice-bound vs = omega arith

test-bound : (met : List ℕ) (t : Test) → test_counts met t ≤ 1 + test_constants t
test-bound met (plain (constant v)) = omega arith
test-bound met (plain (variable x)) = cond_both (has met x) 1 0 (λ n. n ≤ 1 + 0) (λ e. omega arith) (λ e. omega arith)
test-bound met (compared p t) = omega arith
test-bound met (choice vs) = choice-bound vs

tests-bound : (met : List ℕ) (ts : List FieldTest) → sum_along (λ k t. test_counts k t.test) also_test met ts ≤ length ts + tests_constants ts
tests-bound met [] = omega arith
tests-bound met (t ∷ ts) = omega (arith, test-bound met t.test, tests-bound (also_test met t) ts)

conditions-bound : (met : List ℕ) (cs : List Condition) → sum_along condition_counts met_after met cs ≤ tests_in cs + constants_in cs
conditions-bound met [] = omega arith
conditions-bound met (c ∷ cs) = omega (arith, tests-bound met c.tests, conditions-bound (met_after met c) cs)

pub specificity_bound : (cs : List Condition) → specificity_of cs ≤ tests_in cs + constants_in cs
specificity_bound cs = conditions-bound [] cs
