-- What a memory over lent places means. Assumes nothing.
use Rattle.std.specs.Prelude.{◌≡◌, ℕ, ◌≤◌, min, List, length, take, drop}
use Rattle.std.proofs.Common.{arith}
use Rattle.facts.specs.declared.fact.Fact.{Fact}
use Rattle.facts.specs.Model.{Model, meant}
use Rattle.facts.specs.declared.plain.PlainMemory.{PlainMemory}

-- what the lent places hold
abbrev pub places_of : PlainMemory → List Fact
places_of m = m.places.now

-- the pairs stand in the first places
abbrev pub plain_facts : PlainMemory → List Fact
plain_facts m = take m.count (places_of m)

-- the last time tag that was given
abbrev pub plain_last : PlainMemory → ℕ
plain_last m = m.last

-- as many places as were lent, and at most 256
abbrev pub plain_room : PlainMemory → ℕ
plain_room m = min (length (places_of m)) 256

-- the capacity is at most 256
pub plain_small : (m : PlainMemory) → plain_room m ≤ 256
plain_small m = omega arith

-- the three together
abbrev pub plain_model : PlainMemory → Model
plain_model m = meant plain_facts plain_last plain_room m

-- The places past the pairs hold after a call what they held before it. With the pairs, that is all that the places hold.
abbrev pub RestKept : PlainMemory → PlainMemory → Type 0
RestKept before after = drop (length (plain_facts after)) (places_of after) ≡ drop (length (plain_facts after)) (places_of before)
