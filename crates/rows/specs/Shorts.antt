-- What a row of bytes holds. Assumes nothing.
use Rattle.std.specs.Prelude.{ℕ, List, take}
use Rattle.rows.specs.declared.short.Short.{Short}

-- the bytes, in their order
abbrev pub bytes_of : {N : ℕ} → Short N → List ℕ
bytes_of s = take s.len s.bytes
