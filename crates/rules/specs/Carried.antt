-- Going through a row with something carried along. Assumes nothing.
use Rattle.std.specs.Prelude.{ℕ, ◌+◌, Bool, true, ◌&&◌, List, [], ◌∷◌}

-- what is carried in the end
abbrev pub carried : {K X : Type 0} → (K → X → K) → K → List X → K
carried more k [] = k
carried more k (x ∷ xs) = carried more (more k x) xs

-- each is fine, given what is carried then
abbrev pub all_along : {K X : Type 0} → (K → X → Bool) → (K → X → K) → K → List X → Bool
all_along ok more k [] = true
all_along ok more k (x ∷ xs) = ok k x && all_along ok more (more k x) xs

-- what each counts, given what is carried then, all together
abbrev pub sum_along : {K X : Type 0} → (K → X → ℕ) → (K → X → K) → K → List X → ℕ
sum_along count more k [] = 0
sum_along count more k (x ∷ xs) = count k x + sum_along count more (more k x) xs
