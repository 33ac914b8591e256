-- The bytes of a name. Assumes nothing.
use Rattle.std.specs.Prelude.{ℕ, ◌<◌, Bool, ◌&&◌, List, [], length, ◌≢◌, nat_le, slice_index_or}
use Rattle.rows.specs.Shorts.{bytes_of}
use Rattle.values.specs.declared.name.Name.{Name}

-- the bytes of a name
abbrev pub spelling : Name → List ℕ
spelling n = bytes_of n.bytes

-- bytes that a name may have: 1 to 24
abbrev pub nameable : List ℕ → Bool
nameable w = nat_le 1 (length w) && nat_le (length w) 24

-- no two names are alike
abbrev pub Distinct : List (List ℕ) → Type 0
Distinct ns = (i j : ℕ) → i < j → j < length ns → slice_index_or ns i [] ≢ slice_index_or ns j []
