-- The unnegated conditions, as the code goes through them. Assumes nothing.
use Rattle.std.proofs.Common.{◌≡◌, ℕ, zero, suc, ◌+◌, ◌-◌, ◌<◌, ◌≤◌, Bool, true, false, not, cond, ◌&&◌, leb, List, [], ◌∷◌, map, filter, length, get_or, drop, Some, None, Option, sym, refl, ap, ◌∙◌, arith, length-drop, le-leb, MatchOption}
use borrow.Author.Tests.{lt-leb}
use Rattle.std.specs.List.{slice_get}
use Rattle.std.specs.Option.{option_map}
use Rattle.std.proofs.lemmas.List.{at_drop_more, length-map, get_or-map}
use Rattle.std.proofs.lemmas.Option.{none-some, slice_get_within, get_or_from_slice_get}
use Rattle.rules.specs.Attributes.{new_class, declared}
use Rattle.rules.specs.Rules.{Condition, condition_of, conditions_of}
use Rattle.rules.specs.Fitness.{unnegated, names_condition, condition_class}
use Rattle.rules.specs.declared.class.Class.{Class}
use Rattle.rules.specs.declared.condition.Condition.{Condition as RustCondition}

-- the conditions that the code lets pass
abbrev pub passing : List RustCondition → List RustCondition
passing xs = filter (λ x. not x.negated) xs

pub unnegated-is : (xs : List RustCondition) → unnegated (conditions_of xs) ≡ map condition_of (passing xs)
unnegated-is [] = refl
unnegated-is (x ∷ xs) = go x.negated (unnegated-is xs)
  where
    go : (b : Bool) → unnegated (conditions_of xs) ≡ map condition_of (passing xs) → cond b (unnegated (conditions_of xs)) (condition_of x ∷ unnegated (conditions_of xs)) ≡ map condition_of (cond (not b) (x ∷ passing xs) (passing xs))
    go true e = e
    go false e = ap (λ l. condition_of x ∷ l) e

pub unnegated-length : (xs : List RustCondition) → length (unnegated (conditions_of xs)) ≡ length (passing xs)
unnegated-length xs = ap length (unnegated-is xs) ∙ length-map (passing xs) condition_of

past : {X : Type 0} (xs : List X) (i : ℕ) → slice_get xs i ≡ None → length xs ≤ i
past [] i e = omega arith
past (x ∷ xs) zero e = absurd (none-some x (sym e))
past (x ∷ xs) (suc i) e = let h = past xs i e in omega arith

-- the class of the condition with the number k: what the code finds at the place k - 1
abbrev pub Named : List RustCondition → ℕ → Option Class → Type 0
Named xs k r =
    MatchOption r (names_condition (conditions_of xs) k ≡ false)
    (λ c. (names_condition (conditions_of xs) k ≡ true) × (declared c ≡ condition_class (conditions_of xs) k))

pub named : (xs : List RustCondition) (k : ℕ) → 1 ≤ k → Named xs k (option_map (λ x. x.class) (slice_get (passing xs) (k - 1)))
named xs k first = go (slice_get (passing xs) (k - 1)) refl
  where
    long : length (unnegated (conditions_of xs)) ≡ length (passing xs)
    long = unnegated-length xs

    go : (o : Option RustCondition) → slice_get (passing xs) (k - 1) ≡ o → Named xs k (option_map (λ x. x.class) o)
    go (Some x) e =
        let none : Condition = record { negated = false; class = new_class 0; tests = [] } in
        let lt = slice_get_within (passing xs) (k - 1) x e in (
          ap (λ b. b && leb k (length (unnegated (conditions_of xs)))) (le-leb 1 k first) ∙ le-leb k _ (omega (arith, long)),
          sym (ap (λ l. (get_or l (k - 1) none).class) (unnegated-is xs)
              ∙ ap (λ y. y.class) (get_or-map condition_of (passing xs) (k - 1) x none lt)
              ∙ ap (λ y. (condition_of y).class) (get_or_from_slice_get (passing xs) (k - 1) x x e)),
        )
    go None e =
        ap (λ b. b && leb k (length (unnegated (conditions_of xs)))) (le-leb 1 k first)
        ∙ lt-leb k _ (omega (arith, long, past (passing xs) (k - 1) e))

-- what stands at the place where the rest of a row begins
pub rest-begins : {X : Type 0} (xs : List X) (n : ℕ) (y : X) (ys : List X) (d : X) → drop n xs ≡ y ∷ ys → (n < length xs) × (get_or xs n d ≡ y) × (drop (n + 1) xs ≡ ys)
rest-begins xs n y ys d e =
    let long : length (drop n xs) ≡ suc (length ys) = ap length e in
    let h : n < length xs = omega (arith, length-drop n xs) in
    let both : get_or xs n d ∷ drop (n + 1) xs ≡ y ∷ ys = sym (at_drop_more (λ l. l) xs n d h) ∙ e in
    let head : get_or xs n d ≡ y = cc in
    let tail : drop (n + 1) xs ≡ ys = cc in
    (h, head, tail)

-- n unnegated conditions were passed, and c is the next
module _ (cs : List Condition) (n : ℕ) (c : Condition) (rest : List Condition) (next : c ∷ rest ≡ drop n (unnegated cs)) where
  -- it has the number k
  pub class-named : (k : ℕ) → n + 1 ≡ k → (names_condition cs k ≡ true) × (c.class ≡ condition_class cs k)
  class-named k e =
      let none : Condition = record { negated = false; class = new_class 0; tests = [] } in
      let at = rest-begins (unnegated cs) n c rest none (sym next) in
      let place : n ≡ k - 1 = omega arith in (
        ap (λ b. b && leb k (length (unnegated cs))) (le-leb 1 k (omega arith)) ∙ le-leb k (length (unnegated cs)) (omega (arith, at.0)),
        sym (ap (λ x. x.class) at.1) ∙ ap (λ j. (get_or (unnegated cs) j none).class) place,
      )

  -- and then one more was passed
  pub passed_one : rest ≡ drop (n + 1) (unnegated cs)
  passed_one = sym (rest-begins (unnegated cs) n c rest c (sym next)).2

-- no condition has a number past the last
pub class-unnamed : (cs : List Condition) (n k : ℕ) → [] ≡ drop n (unnegated cs) → (1 ≤ k → n < k) → names_condition cs k ≡ false
class-unnamed cs n zero e beyond = ap (λ b. b && leb zero (length (unnegated cs))) (lt-leb 1 zero (omega arith))
class-unnamed cs n (suc k) e beyond =
    let short : length (drop n (unnegated cs)) ≡ 0 = ap length (sym e) in
    let far : n < suc k = beyond (omega arith) in
    ap (λ b. b && leb (suc k) (length (unnegated cs))) (le-leb 1 (suc k) (omega arith))
    ∙ lt-leb (suc k) (length (unnegated cs)) (omega (arith, length-drop n (unnegated cs)))
