-- The first place that has a time tag. Assumes nothing.
use Rattle.std.proofs.Common.{◌≡◌, ℕ, zero, suc, ◌+◌, ◌<◌, eqb, ◌↔◌, List, [], ◌∷◌, ◌++◌, length, Some, None, Option, sym, refl, ap, ◌∙◌, subst, ⊎_elim, add-zero, zero-add, Bool, cond, arith}
use Rattle.std.specs.List.{find, range_with_len}
use Rattle.std.proofs.lemmas.Bool.{cond_both, eq-eqb, ne_eqb, eqb-true, eqb-false, cases_order}
use Rattle.facts.specs.declared.fact.Fact.{Fact}
use Rattle.facts.specs.Model.{tag_at, find_from, find_tag}
use Rattle.facts.specs.Laws.{Lacks, FirstAt, Found}

-- looking through the places is looking through the pairs, where the first place is numbered n
find_at_places : (n t : ℕ) (fs : List Fact) (is : ℕ → Bool) → ((k : ℕ) → k < length fs → is (n + k) ≡ eqb (tag_at fs k) t) → find is (range_with_len n (length fs)) ≡ find_from n fs t
find_at_places n t [] is h = refl
find_at_places n t (f ∷ fs) is h =
    let here : is n ≡ eqb f.tag t = ap is (sym (add-zero n)) ∙ h 0 (omega arith) in
    let rest = find_at_places (n + 1) t fs is (λ k lt. ap is (omega arith) ∙ h (suc k) (omega arith)) in
    λ i. cond (here i) (Some n) (rest i)

pub find_places : (fs : List Fact) (t : ℕ) → find (λ k. eqb (tag_at fs k) t) (range_with_len 0 (length fs)) ≡ find_tag fs t
find_places fs t = find_at_places 0 t fs (λ k. eqb (tag_at fs k) t) (λ k lt. ap (λ j. eqb (tag_at fs j) t) (zero-add k))

-- what the search finds, where the list's first place is numbered n
abbrev FoundFrom : ℕ → List Fact → ℕ → Option ℕ → Type 0
FoundFrom n fs t (Some p) = (k : ℕ) × (p ≡ n + k) × FirstAt fs t k
FoundFrom n fs t None = Lacks fs t

-- one more pair in front, which has another tag
later : (f : Fact) (fs : List Fact) (t k : ℕ) → (f.tag ≡ t → ⊥) → FirstAt fs t k → FirstAt (f ∷ fs) t (suc k)
later f fs t k ne at = record { inside = let h = at.inside in omega arith; has = at.has; first = before }
  where
    before : (j : ℕ) → j < suc k → tag_at (f ∷ fs) j ≡ t → ⊥
    before zero lt e = ne e
    before (suc j) lt e = at.first j (omega arith) e

skipped : (n : ℕ) (f : Fact) (fs : List Fact) (t : ℕ) (o : Option ℕ) → (f.tag ≡ t → ⊥) → FoundFrom (n + 1) fs t o → FoundFrom n (f ∷ fs) t o
skipped n f fs t (Some p) ne h = (suc h.0, let e = h.1 in omega arith, later f fs t h.0 ne h.2)
skipped n f fs t None ne h = (ne, h)

found_from : (n : ℕ) (fs : List Fact) (t : ℕ) → FoundFrom n fs t (find_from n fs t)
found_from n [] t = tt
found_from n (f ∷ fs) t =
    cond_both (eqb f.tag t) (Some n) (find_from (n + 1) fs t) (FoundFrom n (f ∷ fs) t)
    (λ is. (0, omega arith, record { inside = omega arith; has = eqb-true f.tag t is; first = λ j lt. absurd (omega arith) }))
    (λ isnt. skipped n f fs t (find_from (n + 1) fs t) (eqb-false f.tag t isnt) (found_from (n + 1) fs t))

found_first : (fs : List Fact) (t : ℕ) (o : Option ℕ) → FoundFrom 0 fs t o → Found fs t o
found_first fs t (Some p) h = subst (FirstAt fs t) (let e = h.1 in omega arith) h.2
found_first fs t None h = h

found-is : (fs : List Fact) (t : ℕ) → Found fs t (find_tag fs t)
found-is fs t = found_first fs t (find_tag fs t) (found_from 0 fs t)

-- no place has a tag that the list lacks
lacking : (fs : List Fact) (t k : ℕ) → Lacks fs t → k < length fs → tag_at fs k ≡ t → ⊥
lacking [] t k h lt = absurd (omega arith)
lacking (f ∷ fs) t zero h lt = h.0
lacking (f ∷ fs) t (suc k) h lt = lacking fs t k h.1 (omega arith)

-- a search finds one thing only
only : (fs : List Fact) (t : ℕ) (a b : Option ℕ) → Found fs t a → Found fs t b → a ≡ b
only fs t (Some p) (Some q) g h =
    ⊎_elim (λ e. ap Some e)
    (⊎_elim (λ lt. absurd (h.first p lt g.has)) (λ lt. absurd (g.first q lt h.has)))
    (cases_order p q)
only fs t (Some p) None g h = absurd (lacking fs t p h g.inside g.has)
only fs t None (Some q) g h = absurd (lacking fs t q g h.inside h.has)
only fs t None None g h = refl

pub found-law : (fs : List Fact) (t : ℕ) (o : Option ℕ) → (o ≡ find_tag fs t) ↔ Found fs t o
found-law fs t o =
    (λ e. subst (Found fs t) (sym e) (found-is fs t), λ h. only fs t o (find_tag fs t) h (found-is fs t))

-- the first pair that has the tag, with the lists before and after it
pub find_at : (n : ℕ) (front : List Fact) (gone : Fact) (back : List Fact) (t : ℕ) → Lacks front t → gone.tag ≡ t → find_from n (front ++ gone ∷ back) t ≡ Some (n + length front)
find_at n [] gone back t h e = rw (eq-eqb gone.tag t e) (ap Some (omega arith))
find_at n (f ∷ front) gone back t h e =
    rw (ne_eqb f.tag t h.0) (find_at (n + 1) front gone back t h.1 e ∙ ap Some (omega arith))
