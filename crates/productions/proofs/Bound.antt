-- The variables that a production has met: which have a value, and which a test may ask for. Assumes nothing.
use Rattle.std.proofs.Common.{◌≡◌, ℕ, ◌+◌, ◌<◌, ◌≤◌, Bool, true, false, cond, not, ◌&&◌, eqb, List, [], ◌∷◌, ◌++◌, length, get_or, is_some, Some, None, Option, unwrap_or, sym, refl, ap, ◌∙◌, subst, ⊎_elim, arith, eqb-true}
use borrow.Author.Tests.{not-false}
use Rattle.std.proofs.lemmas.List.{get_or_append_left, get_or_push, length_push}
use Rattle.std.proofs.lemmas.Bool.{cases_lt}
use Rattle.std.specs.Str.{bytes_eq}
use Rattle.words.specs.declared.token.Predicate.{Predicate}
use Rattle.words.specs.declared.token.Predicate.TheVariants.{Equal, Unequal, Less, AtMost, Greater, AtLeast, SameKind}
use Rattle.values.proofs.Finding.{found}
use Rattle.rules.specs.Attributes.{Declared}
use Rattle.rules.specs.Carried.{carried}
use Rattle.rules.specs.Fitness.{has, term_variables, test_variables, test_met, fit_term, also_test, bound_after, bound_by}
use Rattle.rules.specs.Rules.{Test, compared, Condition}
use Rattle.languages.specs.Refusals.{wrong_variable}
use Rattle.productions.specs.Forms.{Operand, fixed, named}
use Rattle.productions.specs.Sofar.{Met, Sofar, with_test, first_met, nobody, strayed, met_fault_among, unbound_among, term_for, operand_fault, after_operand, given_fault, binding}
use Rattle.productions.proofs.Faults.{no_fault}
use Rattle.productions.proofs.Carrying.{carried-more, has_last, known_more, bound_more, bound_known}

-- a variable that was found is one of those that were met
pub met-place : (vs : List Met) (w : List ℕ) (i : ℕ) → first_met vs w ≡ Some i → i < length vs
met-place vs w i e = let f = found (λ v. bytes_eq v.word w) nobody vs 0 i e in omega arith

-- ---- inside a condition

-- the variable with number i, first met as v: one of an unnegated condition has a value after this one, and one first met here is
-- known here; this is the condition with number n
pub record Placed (n : ℕ) (bound known : List ℕ) (i : ℕ) (v : Met) : Type 0 where
  pub valued : v.negated ≡ false → has bound i ≡ true
  pub here : v.condition ≡ n → has known i ≡ true
  pub past : v.condition ≤ n

-- so it is of every variable, in the condition c behind the conditions bs
abbrev pub Known : List Condition → Condition → List Met → Type 0
Known bs c vs = (i : ℕ) → i < length vs → Placed (length bs) (bound_after (bound_by bs) c) (carried also_test (bound_by bs) c.tests) i (get_or vs i nobody)

-- one test more
pub known-test : (bs : List Condition) (c : Condition) (vs : List Met) (f : ℕ) (t : Test) → Known bs c vs → Known bs (with_test c f t) vs
known-test bs c vs f t k i h =
    let p = k i h in
    record {
      valued = λ e. bound_more (bound_by bs) c.negated c.tests _ i (p.valued e);
      here = λ e. known_more (bound_by bs) c.tests _ i (p.here e);
      past = p.past;
    }

-- a test with a variable that is met first there
known-new : (bs : List Condition) (c : Condition) (vs : List Met) (w : List ℕ) (f : ℕ) (t : Test) → test_variables t ≡ length vs ∷ [] → Known bs c vs → Known bs (with_test c f t) (vs ++ record { word = w; negated = c.negated; condition = length bs } ∷ [])
known-new bs c vs w f t e k i h =
    let long : length (vs ++ v ∷ []) ≡ length vs + 1 = length_push vs v in
    ⊎_elim
    (λ old. subst (Placed (length bs) bound known i) (sym (get_or_append_left vs (v ∷ []) nobody i old)) (known-test bs c vs f t k i old))
    (λ new.
    let at : length vs ≡ i = omega arith in
    subst (Placed (length bs) bound known i) (sym (get_or_push vs v nobody i at)) (record { valued = λ n. valued i at n; here = λ _. here i at; past = omega arith }))
    (cases_lt i (length vs))
  where
    v : Met
    v = record { word = w; negated = c.negated; condition = length bs }

    bound : List ℕ
    bound = bound_after (bound_by bs) (with_test c f t)

    known : List ℕ
    known = carried also_test (bound_by bs) (with_test c f t).tests

    here : (j : ℕ) → length vs ≡ j → has known j ≡ true
    here j q =
        ap (λ l. has l j) (carried-more also_test (bound_by bs) c.tests (record { field = f; test = t }) ∙ ap (λ l. carried also_test (bound_by bs) c.tests ++ l) (e ∙ ap (λ x. x ∷ []) q))
        ∙ has_last (carried also_test (bound_by bs) c.tests) j

    valued : (j : ℕ) → length vs ≡ j → c.negated ≡ false → has bound j ≡ true
    valued j q n = ap (λ b. has (cond b (bound_by bs) known) j) n ∙ here j q

-- a test with an operand
pub known-operand : (d : Sofar) (c : Condition) (f : ℕ) (t : Test) (o : Operand) → test_variables t ≡ term_variables (term_for d o) → Known d.conditions c d.variables → Known d.conditions (with_test c f t) (after_operand d c.negated o).variables
known-operand d c f t (fixed x) e k = known-test d.conditions c d.variables f t k
known-operand d c f t (named w) e k = go (first_met d.variables w) e
  where
    go : (m : Option ℕ) → test_variables t ≡ unwrap_or m (length d.variables) ∷ [] → Known d.conditions (with_test c f t) (cond (is_some m) d.variables (d.variables ++ record { word = w; negated = c.negated; condition = length d.conditions } ∷ []))
    go None q = known-new d.conditions c d.variables w f t q k
    go (Some i) q = known-test d.conditions c d.variables f t k

-- a variable that has not strayed is known
not_strayed : (bs : List Condition) (c : Condition) (i : ℕ) (v : Met) → Placed (length bs) (bound_after (bound_by bs) c) (carried also_test (bound_by bs) c.tests) i v → strayed v (length bs) ≡ false → has (carried also_test (bound_by bs) c.tests) i ≡ true
not_strayed bs c i v p = go v.negated p.valued
  where
    go : (b : Bool) → (b ≡ false → has (bound_after (bound_by bs) c) i ≡ true) → (b && not (eqb v.condition (length bs))) ≡ false → has (carried also_test (bound_by bs) c.tests) i ≡ true
    go true f e = p.here (eqb-true _ _ (not-false _ e))
    go false f e = bound_known (bound_by bs) c.negated c.tests i (f refl)

met-known : (d : Sofar) (c : Condition) (w : List ℕ) → Known d.conditions c d.variables → met_fault_among d.variables (length d.conditions) false w (first_met d.variables w) ≡ None → has (carried also_test (bound_by d.conditions) c.tests) (unwrap_or (first_met d.variables w) (length d.variables)) ≡ true
met-known d c w k = go (first_met d.variables w) refl
  where
    go : (m : Option ℕ) → first_met d.variables w ≡ m → met_fault_among d.variables (length d.conditions) false w m ≡ None → has (carried also_test (bound_by d.conditions) c.tests) (unwrap_or m (length d.variables)) ≡ true
    go None q e = let z : ◌≡◌ {A = ℕ} 0 1 = cc in absurd (omega arith)
    go (Some i) q e = not_strayed d.conditions c i _ (k i (met-place d.variables w i q)) (no_fault _ wrong_variable None e).0

-- a variable is met first under no predicate or under `=`
pub met-operand : (d : Sofar) (c : Condition) (p : Predicate) (o : Operand) → Known d.conditions c d.variables → operand_fault d (binding p) o ≡ None → test_met (carried also_test (bound_by d.conditions) c.tests) (compared p (term_for d o)) ≡ true
met-operand d c p (fixed x) k e = refl
met-operand d c Equal (named w) k e = refl
met-operand d c Unequal (named w) k e = met-known d c w k e
met-operand d c Less (named w) k e = met-known d c w k e
met-operand d c AtMost (named w) k e = met-known d c w k e
met-operand d c Greater (named w) k e = met-known d c w k e
met-operand d c AtLeast (named w) k e = met-known d c w k e
met-operand d c SameKind (named w) k e = met-known d c w k e

-- ---- between conditions, and in actions

-- the variable with number i, first met as v before the condition with number n: one of an unnegated condition has a value
pub record Settled (n : ℕ) (bound : List ℕ) (i : ℕ) (v : Met) : Type 0 where
  pub valued : v.negated ≡ false → has bound i ≡ true
  pub past : v.condition < n

abbrev pub Bound : List Condition → List Met → Type 0
Bound bs vs = (i : ℕ) → i < length vs → Settled (length bs) (bound_by bs) i (get_or vs i nobody)

-- a condition begins, and ends
pub known-none : (bs : List Condition) (negated : Bool) (k : Declared) (vs : List Met) → Bound bs vs → Known bs (record { negated = negated; class = k; tests = [] }) vs
known-none bs true k vs b i h =
    let p = b i h in
    record { valued = p.valued; here = λ e. absurd (omega arith); past = omega arith }
known-none bs false k vs b i h =
    let p = b i h in
    record { valued = p.valued; here = λ e. absurd (omega arith); past = omega arith }

pub known-all : (bs : List Condition) (c : Condition) (vs : List Met) → Known bs c vs → Bound (bs ++ c ∷ []) vs
known-all bs c vs k i h =
    let p = k i h in
    let long : length (bs ++ c ∷ []) ≡ length bs + 1 = length_push bs c in
    record { valued = λ e. ap (λ l. has l i) (carried-more bound_after [] bs c) ∙ p.valued e; past = omega arith }

-- a variable of an action has a value
pub bound_operand : (d : Sofar) (o : Operand) → Bound d.conditions d.variables → given_fault d o ≡ None → fit_term (bound_by d.conditions) (term_for d o) ≡ true
bound_operand d (fixed x) b e = refl
bound_operand d (named w) b e = go (first_met d.variables w) refl e
  where
    go : (m : Option ℕ) → first_met d.variables w ≡ m → unbound_among d.variables m ≡ None → has (bound_by d.conditions) (unwrap_or m (length d.variables)) ≡ true
    go None q h = let z : ◌≡◌ {A = ℕ} 0 1 = cc in absurd (omega arith)
    go (Some i) q h = (b i (met-place d.variables w i q)).valued (no_fault _ wrong_variable None h).0
