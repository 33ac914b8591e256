-- Texts with blanks, which are written `_`. Assumes nothing.
use Rattle.std.specs.Prelude.{ℕ, zero, suc, ◌+◌, cond, List, [], ◌∷◌, ◌++◌, decimal, ◌==◌, flat_map}

-- the text with the filler in place of each blank
abbrev pub filled : List ℕ → List ℕ → List ℕ
filled filler text = flat_map (λ b. cond (b == 95) filler (b ∷ [])) text

-- the text once for each of n numbers from the first on, with the number in place of each blank
abbrev pub numbered : List ℕ → (first n : ℕ) → List ℕ
numbered text first zero = []
numbered text first (suc n) = numbered text first n ++ filled (decimal (first + n)) text
