-- What the names hold, and which number a word has among them. Assumes nothing.
use Rattle.std.specs.Prelude.{◌≡◌, ℕ, ◌<◌, Bool, cond, ◌&&◌, List, [], ◌∷◌, ◌++◌, map, length, is_some, Some, None, Option, ◌≢◌, nat_lt, slice_index_or}
use Rattle.std.specs.Str.{bytes_eq}
use Rattle.values.specs.Firsts.{first_from}
use Rattle.values.specs.Spelling.{spelling, nameable}
use Rattle.values.specs.declared.names.Names.{Names}

-- the names in the order of their numbers
abbrev pub held : Names → List (List ℕ)
held n = map spelling n.list

-- the number of the name with these bytes: the first place where they stand
abbrev pub number_of : List (List ℕ) → List ℕ → Option ℕ
number_of ns w = first_from (λ n. bytes_eq n w) 0 ns

-- i is the number of the name w, and the only one
pub record Named (ns : List (List ℕ)) (w : List ℕ) (i : ℕ) : Type 0 where
  pub inside : i < length ns
  pub is : slice_index_or ns i [] ≡ w
  pub only : (j : ℕ) → j < length ns → slice_index_or ns j [] ≡ w → j ≡ i

-- no name is w
abbrev pub Nameless : List (List ℕ) → List ℕ → Type 0
Nameless ns w = (i : ℕ) → i < length ns → slice_index_or ns i [] ≢ w

-- a new name can be added: it has 1 to 24 bytes, and there are fewer than 256
abbrev pub admits : List (List ℕ) → List ℕ → Bool
admits ns w = nat_lt (length ns) 256 && nameable w

-- the first of two answers that is there
abbrev pub or_else : Option ℕ → Option ℕ → Option ℕ
or_else None o = o
or_else (Some i) o = Some i

-- the number of the word, with a new word as the next name
abbrev pub answer_intern : List (List ℕ) → List ℕ → Option ℕ
answer_intern ns w = or_else (number_of ns w) (cond (admits ns w) (Some (length ns)) None)

-- the names with the word among them, where it can be
abbrev pub after_intern : List (List ℕ) → List ℕ → List (List ℕ)
after_intern ns w = cond (is_some (number_of ns w)) ns (cond (admits ns w) (ns ++ w ∷ []) ns)
