-- One more at the end of a row: of tests, conditions, settings and actions. Assumes nothing.
use Rattle.std.proofs.Common.{◌≡◌, ℕ, ◌+◌, Bool, true, false, cond, ◌&&◌, ◌||◌, eqb, List, [], ◌∷◌, ◌++◌, length, sym, refl, ap, ◌∙◌, arith, eq-eqb}
use mathlib.Core.Bool.{and-true, and_assoc, or_assoc}
use Rattle.std.proofs.lemmas.Bool.{and_parts, and_from, or_left, or_right}
use Rattle.rules.specs.Attributes.{Declared}
use Rattle.rules.specs.Carried.{carried, all_along}
use Rattle.rules.specs.Fitness.{has, within, fit_term, also_test, unnegated, fit_settings, fit_action, fit_actions}
use Rattle.rules.specs.Rules.{FieldTest, Condition, Setting, Action}
use Rattle.rules.specs.Sizes.{tests_in, test_constants, tests_constants, constants_in, action_settings, settings_in}

-- ---- what is carried along

module _ {K X : Type 0} (more : K → X → K) where
  pub carried-more : (k : K) (xs : List X) (x : X) → carried more k (xs ++ x ∷ []) ≡ more (carried more k xs) x
  carried-more k [] x = refl
  carried-more k (y ∷ ys) x = carried-more (more k y) ys x

  pub along_more : (ok : K → X → Bool) (k : K) (xs : List X) (x : X) → all_along ok more k (xs ++ x ∷ []) ≡ (all_along ok more k xs && ok (carried more k xs) x)
  along_more ok k [] x = and-true (ok k x)
  along_more ok k (y ∷ ys) x = ap (λ b. ok k y && b) (along_more ok (more k y) ys x) ∙ sym (and_assoc (ok k y) _ _)

-- ---- counts

pub tests-more : (cs : List Condition) (c : Condition) → tests_in (cs ++ c ∷ []) ≡ tests_in cs + (1 + length c.tests)
tests-more [] c = omega arith
tests-more (b ∷ bs) c = let e = tests-more bs c in omega arith

pub constants-more : (cs : List Condition) (c : Condition) → constants_in (cs ++ c ∷ []) ≡ constants_in cs + tests_constants c.tests
constants-more [] c = omega arith
constants-more (b ∷ bs) c = let e = constants-more bs c in omega arith

pub test_constants-more : (ts : List FieldTest) (t : FieldTest) → tests_constants (ts ++ t ∷ []) ≡ tests_constants ts + test_constants t.test
test_constants-more [] t = omega arith
test_constants-more (u ∷ us) t = let e = test_constants-more us t in omega arith

pub settings-more : (as' : List Action) (a : Action) → settings_in (as' ++ a ∷ []) ≡ settings_in as' + action_settings a
settings-more [] a = omega arith
settings-more (b ∷ bs) a = let e = settings-more bs a in omega arith

pub unnegated-more : (cs : List Condition) (c : Condition) → length (unnegated (cs ++ c ∷ [])) ≡ length (unnegated cs) + cond c.negated 0 1
unnegated-more [] c = go c.negated
  where
    go : (b : Bool) → length (cond b [] (c ∷ [])) ≡ 0 + cond b 0 1
    go true = refl
    go false = refl
unnegated-more (b ∷ bs) c = go b.negated (unnegated-more bs c)
  where
    go : (n : Bool) → length (unnegated (bs ++ c ∷ [])) ≡ length (unnegated bs) + cond c.negated 0 1 → length (cond n (unnegated (bs ++ c ∷ [])) (b ∷ unnegated (bs ++ c ∷ []))) ≡ length (cond n (unnegated bs) (b ∷ unnegated bs)) + cond c.negated 0 1
    go true e = e
    go false e = omega arith

-- ---- fit settings and actions

pub fit_settings-more : (c : Declared) (known : List ℕ) (ss : List Setting) (s : Setting) → fit_settings c known ss ≡ true → within c s.field ≡ true → fit_term known s.value ≡ true → fit_settings c known (ss ++ s ∷ []) ≡ true
fit_settings-more c known [] s h w t = cc
fit_settings-more c known (r ∷ rs) s h w t =
    let p = and_parts (within c r.field && fit_term known r.value) (fit_settings c known rs) h in
    and_from _ _ p.0 (fit_settings-more c known rs s p.1 w t)

pub fit_actions-more : (cs : List Condition) (as' : List Action) (a : Action) → fit_actions cs as' ≡ true → fit_action cs a ≡ true → fit_actions cs (as' ++ a ∷ []) ≡ true
fit_actions-more cs [] a h e = cc
fit_actions-more cs (b ∷ bs) a h e =
    let p = and_parts (fit_action cs b) (fit_actions cs bs) h in
    and_from _ _ p.0 (fit_actions-more cs bs a p.1 e)

-- ---- the variables that are known

pub has-append : (xs ys : List ℕ) (x : ℕ) → has (xs ++ ys) x ≡ (has xs x || has ys x)
has-append [] ys x = refl
has-append (y ∷ xs) ys x = ap (λ b. eqb y x || b) (has-append xs ys x) ∙ sym (or_assoc (eqb y x) _ _)

pub has-before : (xs ys : List ℕ) (x : ℕ) → has xs x ≡ true → has (xs ++ ys) x ≡ true
has-before xs ys x h = has-append xs ys x ∙ or_left (has xs x) (has ys x) h

pub has_last : (xs : List ℕ) (x : ℕ) → has (xs ++ x ∷ []) x ≡ true
has_last xs x = has-append xs (x ∷ []) x ∙ or_right (has xs x) (has (x ∷ []) x) (or_left (eqb x x) false (eq-eqb x x refl))

-- what is known before tests is known after them
pub still_known : (known : List ℕ) (ts : List FieldTest) (x : ℕ) → has known x ≡ true → has (carried also_test known ts) x ≡ true
still_known known [] x h = h
still_known known (t ∷ ts) x h = still_known (also_test known t) ts x (has-before known _ x h)

-- one test more
pub known_more : (known : List ℕ) (ts : List FieldTest) (t : FieldTest) (x : ℕ) → has (carried also_test known ts) x ≡ true → has (carried also_test known (ts ++ t ∷ [])) x ≡ true
known_more known ts t x h = ap (λ k. has k x) (carried-more also_test known ts t) ∙ has-before (carried also_test known ts) _ x h

pub bound_more : (known : List ℕ) (b : Bool) (ts : List FieldTest) (t : FieldTest) (x : ℕ) → has (cond b known (carried also_test known ts)) x ≡ true → has (cond b known (carried also_test known (ts ++ t ∷ []))) x ≡ true
bound_more known true ts t x h = h
bound_more known false ts t x h = known_more known ts t x h

-- what has a value after a condition is known at its end
pub bound_known : (known : List ℕ) (b : Bool) (ts : List FieldTest) (x : ℕ) → has (cond b known (carried also_test known ts)) x ≡ true → has (carried also_test known ts) x ≡ true
bound_known known true ts x h = still_known known ts x h
bound_known known false ts x h = h
