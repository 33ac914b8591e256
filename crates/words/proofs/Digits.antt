-- Reading the digits of a number. Assumes nothing.
use Rattle.std.proofs.Common.{◌≡◌, ℕ, ◌+◌, ◌-◌, ◌*◌, ◌<◌, ◌≤◌, min, Bool, true, false, cond, ◌&&◌, leb, List, [], ◌∷◌, length, get_or, drop, Some, None, sym, refl, ap, ◌∙◌, arith}
use Rattle.std.proofs.lemmas.List.{at_drop_more}
use Rattle.std.proofs.lemmas.Bool.{le-leb}
use Rattle.words.specs.Numbers.{decimal, capped}

-- what the byte at a place does
byte-here :
    (ds : List ℕ) (i n : ℕ) → i < length ds
    → decimal n (drop i ds) ≡ cond (leb 48 (get_or ds i 0) && leb (get_or ds i 0) 57) (decimal (n * 10 + (get_or ds i 0 - 48)) (drop (i + 1) ds)) None
byte-here ds i n h = at_drop_more (decimal n) ds i 0 h

-- a digit
pub digit-here :
    (ds : List ℕ) (i n : ℕ) → i < length ds → 48 ≤ get_or ds i 0 → get_or ds i 0 ≤ 57
    → decimal n (drop i ds) ≡ decimal (n * 10 + (get_or ds i 0 - 48)) (drop (i + 1) ds)
digit-here ds i n h low high = byte-here ds i n h ∙ rw (le-leb 48 (get_or ds i 0) low, le-leb (get_or ds i 0) 57 high) refl

-- the bound does not change what one digit more makes, up to the bound
pub kept_min : (v n d c : ℕ) → v ≡ min n c → d ≤ 9 → 1 ≤ c → min (v * 10 + d) c ≡ min (n * 10 + d) c
kept_min v n d c e h k = omega arith

-- a bound on the digits that were read does not change the number up to the bound
capped_early : (ds : List ℕ) (n : ℕ) → capped (decimal (min n 4294967296) ds) ≡ capped (decimal n ds)
capped_early [] n = ap Some (omega arith)
capped_early (d ∷ ds) n = go (leb 48 d && leb d 57)
    (let e : min (min n 4294967296 * 10 + (d - 48)) 4294967296 ≡ min (n * 10 + (d - 48)) 4294967296 = omega arith in
    sym (capped_early ds (min n 4294967296 * 10 + (d - 48))) ∙ ap (λ m. capped (decimal m ds)) e ∙ capped_early ds (n * 10 + (d - 48)))
  where
    go : (b : Bool) → capped (decimal (min n 4294967296 * 10 + (d - 48)) ds) ≡ capped (decimal (n * 10 + (d - 48)) ds) → capped (cond b (decimal (min n 4294967296 * 10 + (d - 48)) ds) None) ≡ capped (cond b (decimal (n * 10 + (d - 48)) ds) None)
    go true more = more
    go false more = refl

-- one digit more
pub digit_more :
    (ds : List ℕ) (i n m : ℕ) → i < length ds → 48 ≤ get_or ds i 0 → get_or ds i 0 ≤ 57 → m ≡ min (n * 10 + (get_or ds i 0 - 48)) 4294967296
    → capped (decimal m (drop (i + 1) ds)) ≡ capped (decimal n (drop i ds))
digit_more ds i n m h low high e =
    ap (λ k. capped (decimal k (drop (i + 1) ds))) e
    ∙ capped_early (drop (i + 1) ds) (n * 10 + (get_or ds i 0 - 48))
    ∙ sym (ap capped (at_drop_more (decimal n) ds i 0 h ∙ rw (le-leb 48 (get_or ds i 0) low, le-leb (get_or ds i 0) 57 high) refl))
