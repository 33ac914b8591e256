-- Words as the grammar sees them. Assumes nothing.
use Rattle.std.specs.Prelude.{ℕ, Bool, true, false, List, []}
use Rattle.std.specs.Str.{bytes_eq}
use Rattle.words.specs.Kinds.{Kind, open', number, symbol}

-- a number counts by its value, however it is written
abbrev pub sense : Kind → Kind
sense (number n w) = number n []
sense k = k

-- the word is `(`
abbrev pub is_open : Kind → Bool
is_open open' = true
is_open k = false

-- the word is this symbol
abbrev pub is_symbol : List ℕ → Kind → Bool
is_symbol s (symbol w) = bytes_eq w s
is_symbol s k = false
