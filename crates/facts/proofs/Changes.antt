-- How a memory's meaning changes, for every memory. Assumes nothing.
use Rattle.std.proofs.Common.{◌≡◌, ℕ, ◌+◌, ◌<◌, cond, eqb, leb, [], ◌∷◌, ◌++◌, length, Some, Ok, sym, ap, ◌∙◌}
use Rattle.std.specs.List.{remove}
use Rattle.std.proofs.lemmas.Bool.{cond-false, ne_eqb, lt-leb}
use Rattle.values.specs.declared.element.Element.{Element}
use Rattle.facts.specs.Model.{Model, model, fact, highest_tag, find_tag, without, removal, answer_add, after_add, answer_remove, after_remove}

pub same_model : (m m' : Model) → m.facts ≡ m'.facts → m.last ≡ m'.last → m.capacity ≡ m'.capacity → m ≡ m'
same_model m m' f l c = λ i. record { facts = f i; last = l i; capacity = c i }

-- adding, where tags are left and the memory is not full
module _ (m : Model) (left : m.last < highest_tag) (free : length m.facts ≡ m.capacity → ⊥) where
  goes : {X : Type 0} (x y z : X) → cond (leb highest_tag m.last) x (cond (eqb (length m.facts) m.capacity) y z) ≡ z
  goes x y z =
      cond-false (leb highest_tag m.last) x _ (lt-leb highest_tag m.last left)
      ∙ cond-false (eqb (length m.facts) m.capacity) y z (ne_eqb _ _ free)

  pub added-answer : Ok (m.last + 1) ≡ answer_add m
  added-answer = sym (goes _ _ _)

  pub added-after : (e : Element) (m' : Model) → m'.facts ≡ m.facts ++ fact (m.last + 1) e ∷ [] → m'.last ≡ m.last + 1 → m'.capacity ≡ m.capacity → m' ≡ after_add m e
  added-after e m' f l c =
      same_model m' (model (m.facts ++ fact (m.last + 1) e ∷ []) (m.last + 1) m.capacity) f l c ∙ sym (goes _ _ _)

-- removing, where a place has the tag
module _ (m : Model) (t p : ℕ) (found : find_tag m.facts t ≡ Some p) where
  pub removed-answer : Ok tt ≡ answer_remove m t
  removed-answer = sym (ap removal found)

  pub removed-after : (m' : Model) → m'.facts ≡ remove m.facts p → m'.last ≡ m.last → m'.capacity ≡ m.capacity → m' ≡ after_remove m t
  removed-after m' f l c = same_model m' (after_remove m t) (f ∙ sym (ap (λ o. without o m.facts) found)) l c
