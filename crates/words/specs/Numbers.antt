-- The value of a number word: an optional sign, one digit or more, and an optional final period. Assumes nothing.
use Rattle.std.specs.Prelude.{ℕ, ◌+◌, ◌-◌, ◌*◌, min, Bool, true, false, cond, ◌&&◌, ◌||◌, List, [], ◌∷◌, length, take, drop, ℤ, pos, neg_ℤ, Some, None, Option, Ok, Err, Result, ◌==◌, nat_le, slice_index}
use Rattle.words.specs.declared.numbers.NotANumber.{NotANumber}
use Rattle.words.specs.declared.numbers.NotANumber.TheVariants.{NoForm, OutOfRange}

-- whether a word begins with `-`
abbrev pub negative : List ℕ → Bool
negative w = nat_le 1 (length w) && slice_index w 0 == 45

-- whether it begins with `-` or `+`
abbrev pub signed : List ℕ → Bool
signed w = nat_le 1 (length w) && (slice_index w 0 == 45 || slice_index w 0 == 43)

-- whether it ends with a period
abbrev pub dotted : List ℕ → Bool
dotted w = nat_le 1 (length w) && slice_index w (length w - 1) == 46

-- the word without its sign
abbrev pub unsigned : List ℕ → List ℕ
unsigned w = cond (signed w) (drop 1 w) w

-- the word without its final period
abbrev pub undotted : List ℕ → List ℕ
undotted w = cond (dotted w) (take (length w - 1) w) w

-- the number that bytes write in base ten after the digits of n, where all are digits
abbrev pub decimal : ℕ → List ℕ → Option ℕ
decimal n [] = Some n
decimal n (d ∷ ds) = cond (nat_le 48 d && nat_le d 57) (decimal (n * 10 + (d - 48)) ds) None

-- the same up to a bound that lies past every number in range
abbrev pub capped : Option ℕ → Option ℕ
capped None = None
capped (Some n) = Some (min n 4294967296)

-- a magnitude with its sign, in 32 signed bits
abbrev pub ranged : Bool → ℕ → Result ℤ NotANumber
ranged true n = cond (nat_le n 2147483648) (Ok (neg_ℤ (pos n))) (Err OutOfRange)
ranged false n = cond (nat_le n 2147483647) (Ok (pos n)) (Err OutOfRange)

abbrev pub valued : Bool → Option ℕ → Result ℤ NotANumber
valued minus None = Err NoForm
valued minus (Some n) = ranged minus n

-- the value of a plain word as a number, or why it has none
abbrev pub numeral : List ℕ → Result ℤ NotANumber
numeral w = cond (length (undotted (unsigned w)) == 0) (Err NoForm) (valued (negative w) (decimal 0 (undotted (unsigned w))))
