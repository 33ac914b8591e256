-- The functions of the model say exactly the relations of the laws. Assumes nothing.
use Rattle.std.proofs.Common.{◌≡◌, ℕ, zero, suc, ◌+◌, ◌-◌, Bool, true, false, cond, eqb, leb, List, [], ◌∷◌, ◌++◌, length, Some, None, Ok, Err, Option, Result, sym, refl, ap, ◌∙◌, subst, arith}
use Rattle.std.specs.List.{remove}
use Rattle.std.proofs.lemmas.List.Edits.{remove-append_right}
use Rattle.std.proofs.lemmas.Bool.{leb-true, leb-false, eqb-true, eqb-false, le-leb, lt-leb, eq-eqb}
use Rattle.values.specs.declared.element.Element.{Element}
use Rattle.facts.specs.declared.fact.Fact.{Fact}
use Rattle.facts.specs.declared.refusal.MemoryRefusal.{MemoryRefusal}
use Rattle.facts.specs.declared.refusal.MemoryRefusal.TheVariants.{NoSuchTag, TagsUsedUp, Full}
use Rattle.facts.specs.Model.{Model, model, fact, highest_tag, find_tag, removal, without, answer_add, after_add, answer_remove, after_remove, after_clear}
use Rattle.facts.specs.Laws.{Lacks, FirstAt, Found, Added, Removed, Cleared, MemoryLaws}
use Rattle.facts.proofs.Changes.{same_model, added-answer, added-after, removed-answer, removed-after}
use Rattle.facts.proofs.Finding.{found-law, find_at}

-- adding, by what its two tests say
added-by : (m : Model) (e : Element) (used full : Bool) → leb highest_tag m.last ≡ used → eqb (length m.facts) m.capacity ≡ full → Added m e (cond used (Err TagsUsedUp) (cond full (Err Full) (Ok (m.last + 1)))) (cond used m (cond full m (model (m.facts ++ fact (m.last + 1) e ∷ []) (m.last + 1) m.capacity)))
added-by m e true full u f = (leb-true _ _ u, refl)
added-by m e false true u f = (leb-false _ _ u, eqb-true _ _ f, refl)
added-by m e false false u f =
    record {
      left = leb-false _ _ u;
      free = eqb-false _ _ f;
      next = refl;
      facts = refl;
      last = refl;
      capacity = refl;
    }

added-to : (m : Model) (e : Element) (r : Result ℕ MemoryRefusal) (m' : Model) → Added m e r m' → (r ≡ answer_add m) × (m' ≡ after_add m e)
added-to m e (Ok t) m' h = (
  ap Ok h.next ∙ added-answer m h.left h.free,
  added-after m h.left h.free e m' (h.facts ∙ ap (λ t. m.facts ++ fact t e ∷ []) h.next) (h.last ∙ h.next) h.capacity,
)
added-to m e (Err TagsUsedUp) m' h =
    let used = le-leb highest_tag m.last h.0 in
    (rw used, h.1 ∙ rw used)
added-to m e (Err Full) m' h =
    let left = lt-leb highest_tag m.last h.0 in
    let full = eq-eqb (length m.facts) m.capacity h.1 in
    (rw (left, full), h.2 ∙ rw (left, full))
added-to m e (Err NoSuchTag) m' h = absurd h

-- a list about the first place that has the tag
record Cut (fs : List Fact) (t : ℕ) (rest : List Fact) : Type 0 where
  front : List Fact
  gone : Fact
  back : List Fact
  was : fs ≡ front ++ gone ∷ back
  has : gone.tag ≡ t
  first : Lacks front t
  is : rest ≡ front ++ back

cut : (fs : List Fact) (t p : ℕ) → FirstAt fs t p → Cut fs t (remove fs p)
cut [] t p at = absurd (let h = at.inside in omega arith)
cut (f ∷ fs) t zero at = record { front = []; gone = f; back = fs; was = refl; has = at.has; first = tt; is = refl }
cut (f ∷ fs) t (suc p) at =
    let c : Cut fs t (remove fs p) =
    cut fs t p
    (record {
      inside = let h = at.inside in omega arith;
      has = at.has;
      first = λ k lt. at.first (suc k) (omega arith);
    }) in
    record {
      front = f ∷ c.front;
      gone = c.gone;
      back = c.back;
      was = ap (λ l. f ∷ l) c.was;
      has = c.has;
      first = (at.first 0 (omega arith), c.first);
      is = ap (λ l. f ∷ l) c.is;
    }

-- removing, by what the search finds
removed-by : (m : Model) (t : ℕ) (o : Option ℕ) → Found m.facts t o → Removed m t (removal o) (model (without o m.facts) m.last m.capacity)
removed-by m t (Some p) at =
    let c = cut m.facts t p at in
    record {
      front = c.front;
      gone = c.gone;
      back = c.back;
      was = c.was;
      has = c.has;
      first = c.first;
      facts = c.is;
      last = refl;
      capacity = refl;
    }
removed-by m t None lacks = (lacks, refl)

removed-at : (front : List Fact) (gone : Fact) (back : List Fact) → remove (front ++ gone ∷ back) (length front) ≡ front ++ back
removed-at front gone back =
    let here : length front - length front ≡ 0 = omega arith in
    remove-append_right front (gone ∷ back) (length front) (length front) refl (omega arith)
    ∙ ap (λ k. front ++ remove (gone ∷ back) k) here

removed-to : (m : Model) (t : ℕ) (r : Result (Unit {0}) MemoryRefusal) (m' : Model) → Removed m t r m' → (r ≡ answer_remove m t) × (m' ≡ after_remove m t)
removed-to m t (Ok _) m' h =
    let n = length h.front in
    let found : find_tag m.facts t ≡ Some n =
    ap (λ fs. find_tag fs t) h.was ∙ find_at 0 h.front h.gone h.back t h.first h.has ∙ ap Some (omega arith) in (
      removed-answer m t n found,
      removed-after m t n found m' (h.facts ∙ sym (ap (λ fs. remove fs n) h.was ∙ removed-at h.front h.gone h.back)) h.last h.capacity,
    )
removed-to m t (Err NoSuchTag) m' h =
    let found = (found-law m.facts t None).1 h.0 in
    (ap removal found, h.1 ∙ ap (λ o. model (without o m.facts) m.last m.capacity) found)
removed-to m t (Err TagsUsedUp) m' h = absurd h
removed-to m t (Err Full) m' h = absurd h

cleared-to : (m m' : Model) → m' ≡ after_clear m → Cleared m m'
cleared-to m m' e =
    record { facts = ap (λ n. n.facts) e; last = ap (λ n. n.last) e; capacity = ap (λ n. n.capacity) e }

-- a relation at what the functions give, at equal values
moved : {R : Type 0} (P : R → Model → Type 0) (r r' : R) (m m' : Model) → P r' m' → (r ≡ r') × (m ≡ m') → P r m
moved P r r' m m' h e = subst (λ x. P x m) (sym e.0) (subst (P r') (sym e.1) h)

pub memory_laws : MemoryLaws
memory_laws =
    record {
      found = found-law;
      added = λ m e r m'. (moved (Added m e) r (answer_add m) m' (after_add m e) (added-by m e _ _ refl refl), added-to m e r m');
      removed = λ m t r m'. (moved (Removed m t) r (answer_remove m t) m' (after_remove m t) (removed-by m t _ ((found-law m.facts t _).0 refl)), removed-to m t r m');
      cleared = λ m m'. (cleared-to m m', λ h. same_model m' (after_clear m) h.facts h.last h.capacity);
    }
