-- The first of a row that passes a test. Assumes nothing.
use Rattle.std.specs.Prelude.{ℕ, Bool, List, Option}
use Rattle.std.specs.List.{position_from}

-- the first place, counted from n, of one that passes; none where none does
abbrev pub first_from : {X : Type 0} → (X → Bool) → ℕ → List X → Option ℕ
first_from test n xs = position_from test n xs
