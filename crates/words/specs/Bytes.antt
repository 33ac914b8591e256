-- What a single byte of a rule text is. Assumes nothing.
use Rattle.std.specs.Prelude.{ℕ, Bool, cond, ◌&&◌, ◌||◌, ◌==◌, nat_le}
use Rattle.words.specs.declared.bytes.Class.{Class}
use Rattle.words.specs.declared.bytes.Class.TheVariants.{Blank, Feed, Mark, Semicolon, Plain, Strange}

-- `(`, `)` or `^`
abbrev pub is_mark : ℕ → Bool
is_mark b = b == 40 || (b == 41 || b == 94)

-- a space, a tab or a carriage return
abbrev pub is_blank : ℕ → Bool
is_blank b = b == 32 || (b == 9 || b == 13)

-- a byte that is no mark, no `;` (59), no line feed (10) and no blank is plain from 33 to 126, and else strange
abbrev pub class_of : ℕ → Class
class_of b =
    cond (is_mark b) Mark (cond (b == 59) Semicolon (cond (b == 10) Feed (cond (is_blank b) Blank (cond (nat_le 33 b && nat_le b 126) Plain Strange))))
