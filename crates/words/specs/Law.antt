-- Which words stand in a text, and where. Assumes nothing.
use Rattle.std.specs.Prelude.{◌≡◌, ℕ, ◌+◌, ◌<◌, ◌≤◌, ◌⊎◌, List, [], ◌∷◌, length, take, drop, ◌≢◌, slice_index}
use Rattle.words.specs.Bytes.{class_of}
use Rattle.words.specs.declared.bytes.Class.{Class}
use Rattle.words.specs.declared.bytes.Class.TheVariants.{Mark, Plain, Strange}
use Rattle.words.specs.Kinds.{Kind, mark_kind, word_kind}
use Rattle.words.specs.Words.{Lexeme}

-- the byte at place i is of the class c
abbrev pub Is : List ℕ → ℕ → Class → Type 0
Is text i c = (i < length text) × (class_of (slice_index text i) ≡ c)

-- place i lies in a comment: a `;` (59) stands at i or before, and no line feed (10) from there to before i
abbrev pub Commented : List ℕ → ℕ → Type 0
Commented text i =
    (j : ℕ) × (j ≤ i) × (slice_index text j ≡ 59) × ((k : ℕ) → j ≤ k → k < i → slice_index text k ≢ 10)

-- the byte at place p is a mark, or may stand in no word, and k is its kind
abbrev pub Alone : List ℕ → ℕ → Kind → Type 0
Alone text p k = (Is text p Mark ⊎ Is text p Strange) × (k ≡ mark_kind (slice_index text p))

-- a longest run of plain bytes, one or more, begins at place p, and k is the kind of the word that they make
abbrev pub Run : List ℕ → ℕ → Kind → Type 0
Run text p k =
    (n : ℕ) × (0 < n)
    × ((i : ℕ) → p ≤ i → i < p + n → Is text i Plain)
    × ((i : ℕ) → i + 1 ≡ p → Is text i Plain → ⊥)
    × (Is text (p + n) Plain → ⊥)
    × (k ≡ word_kind (take n (drop p text)))

-- a word of the kind k begins at place p
abbrev pub WordAt : List ℕ → ℕ → Kind → Type 0
WordAt text p k = (Commented text p → ⊥) × (Alone text p k ⊎ Run text p k)

-- a list has a word of the kind k at place p
abbrev pub Has : List Lexeme → ℕ → Kind → Type 0
Has [] p k = ⊥
Has (l ∷ ls) p k = ((l.place ≡ p) × (l.kind ≡ k)) ⊎ Has ls p k

-- each word stands before those that follow it in the list
abbrev pub Rising : List Lexeme → Type 0
Rising [] = Unit {0}
Rising (l ∷ ls) = ((p : ℕ) (k : Kind) → Has ls p k → l.place < p) × Rising ls

-- the list is exactly the words that stand in a text, in the order of their places
pub record AreWords (text : List ℕ) (ls : List Lexeme) : Type 0 where
  pub rising : Rising ls
  pub sound : (p : ℕ) (k : Kind) → Has ls p k → WordAt text p k
  pub complete : (p : ℕ) (k : Kind) → WordAt text p k → Has ls p k
