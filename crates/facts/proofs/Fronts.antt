-- The first places of a list without one of them. Assumes nothing.
use Rattle.std.proofs.Common.{◌≡◌, ℕ, ◌+◌, ◌-◌, ◌<◌, ◌≤◌, List, ◌++◌, length, take, drop, sym, ◌∙◌, add-one, arith}
use lib.Seq.{paste}
use Rattle.std.specs.List.{remove}
use Rattle.std.proofs.lemmas.List.{length-drop, take-take, drop-take}
use Rattle.std.proofs.lemmas.List.Edits.{take-paste}
use Rattle.facts.specs.declared.fact.Fact.{Fact}

-- ys: of the first n places, those after p are moved one place down; then the first n - 1 are the first n without the one at p
pub front-removed : (n p : ℕ) (xs ys : List Fact) → ys ≡ paste xs p (drop (p + 1) xs) (n - (p + 1)) → p < n → n ≤ length xs → take (n - 1) ys ≡ remove (take n xs) p
front-removed n p xs ys is lt inside =
    let fits : n - (p + 1) ≤ length (drop (p + 1) xs) = simp length-drop (omega arith) in
    let k : n - 1 ≡ p + (n - (p + 1)) = omega arith in
    let whole : p + 1 + (n - (p + 1)) ≡ n = omega arith in
    (λ i. take (k i) (is i))
    ∙ take-paste xs p (drop (p + 1) xs) (n - (p + 1)) (omega arith) fits
    ∙ (λ i. sym (take-take p n xs (omega arith)) i ++ sym (drop-take (p + 1) (n - (p + 1)) xs) i)
    ∙ (λ i. take p (take n xs) ++ drop (add-one p i) (take (whole i) xs))
