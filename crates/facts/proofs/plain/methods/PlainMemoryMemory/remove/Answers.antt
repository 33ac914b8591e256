use Rattle.std.proofs.Common.{◌≡◌, ℕ, ◌<◌, min, List, take, Some, sym, refl, ap, arith, rules}
use Rattle.std.proofs.lemmas.List.{length-take}
use Rattle.facts.specs.declared.fact.Fact.{Fact}
use Rattle.facts.specs.Model.{find_tag}
use Rattle.facts.specs.Plain.{plain_model}
use Rattle.facts.proofs.Fronts.{front-removed}
use Rattle.facts.proofs.Finding.{found-law}
use Rattle.facts.proofs.Changes.{removed-after}
use Rattle.facts.proofs.plain.methods.PlainMemoryMemory.remove.Goals as goal

-- a place that is found is one of the first n
place_in : (n : ℕ) (xs : List Fact) (t p : ℕ) → Some p ≡ find_tag (take n xs) t → p < n
place_in n xs t p e =
    let h = ((found-law (take n xs) t (Some p)).0 e).inside in
    omega (arith, length-take n xs)

pub overflow_add-place : goal.overflow_add-place
overflow_add-place c =
    let s = c.args.self.now in
    omega (arith, s.few, place_in s.count s.places.now c.args.tag c.in_ok-place.place (search rules))

pub copy_within-requires-clause-start_le_end : goal.copy_within-requires-clause-start_le_end
copy_within-requires-clause-start_le_end c =
    let s = c.args.self.now in
    omega (arith, place_in s.count s.places.now c.args.tag c.in_ok-place.place (search rules))

pub copy_within-requires-clause-dest_in_bounds : goal.copy_within-requires-clause-dest_in_bounds
copy_within-requires-clause-dest_in_bounds c =
    let s = c.args.self.now in
    omega (arith, s.lent, place_in s.count s.places.now c.args.tag c.in_ok-place.place (search rules))

pub returns-clause-after : goal.returns-clause-after
returns-clause-after c =
    let s = c.args.self.now in
    let xs = s.places.now in
    let p = c.in_ok-place.place in
    let found : Some p ≡ find_tag (take s.count xs) c.args.tag = search rules in
    removed-after (plain_model s) c.args.tag p (sym found) _
    (front-removed s.count p xs _ c.copy_within.ensures.after (place_in s.count xs c.args.tag p found) s.lent)
    refl
    (ap (λ k. min k 256) c.copy_within.ensures.len)
