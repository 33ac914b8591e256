-- What facts and memories mean, and what each call answers and leaves. Assumes nothing.
use Rattle.std.specs.Prelude.{ℕ, ◌+◌, cond, List, [], ◌∷◌, ◌++◌, map, length, Some, None, Ok, Err, Option, Result, ◌==◌, nat_eq, nat_le, slice_index, slice_index_or}
use Rattle.std.specs.List.{remove}
use Rattle.values.specs.declared.value.Value.{Value}
use Rattle.values.specs.declared.element.Element.{Element}
use Rattle.values.specs.Elements.{nil, fields_of}
use Rattle.values.specs.Firsts.{first_from}
use Rattle.facts.specs.declared.fact.Fact.{Fact}
use Rattle.facts.specs.declared.refusal.MemoryRefusal.{MemoryRefusal}
use Rattle.facts.specs.declared.refusal.MemoryRefusal.TheVariants.{NoSuchTag, TagsUsedUp, Full}

-- the number that a refusal is told by
abbrev pub refusal_number : MemoryRefusal → ℕ
refusal_number NoSuchTag = 8
refusal_number TagsUsedUp = 10
refusal_number Full = 11

-- the highest time tag
abbrev pub highest_tag : ℕ
highest_tag = 16777215

-- a time tag and the element that has it
abbrev pub fact : ℕ → Element → Fact
fact t e = record { tag = t; element = e }

-- the time tag at a place, 0 past the last
abbrev pub tag_at : List Fact → ℕ → ℕ
tag_at fs i = slice_index (map (λ f. f.tag) fs) i

-- the values of the element at a place, none past the last
abbrev pub fields_at : List Fact → ℕ → List Value
fields_at fs i = slice_index_or (map (λ f. fields_of f.element) fs) i []

-- the value of a field at a place, nil past the last place or the last field
abbrev pub value_at : List Fact → ℕ → ℕ → Value
value_at fs i j = slice_index_or (fields_at fs i) j nil

-- the first place that has the time tag, where the list's first place is numbered n
abbrev pub find_from : ℕ → List Fact → ℕ → Option ℕ
find_from n fs t = first_from (λ f. nat_eq f.tag t) n fs

-- the first place that has the time tag
abbrev pub find_tag : List Fact → ℕ → Option ℕ
find_tag fs t = find_from 0 fs t

-- what a memory means: its pairs, oldest first, the last time tag that it gave, and how many pairs it can hold
pub record Model : Type 0 where
  pub facts : List Fact
  pub last : ℕ
  pub capacity : ℕ

-- a memory's meaning from its three parts
abbrev pub model : List Fact → ℕ → ℕ → Model
model fs l c = record { facts = fs; last = l; capacity = c }

-- a memory's meaning from the ghost members of the traits
abbrev pub meant : {S : Type 0} → (S → List Fact) → (S → ℕ) → (S → ℕ) → S → Model
meant facts last room s = model (facts s) (last s) (room s)

-- Adding answers the next time tag. It is refused first if the last tag is the highest, then if the memory is full.
abbrev pub answer_add : Model → Result ℕ MemoryRefusal
answer_add m = cond (nat_le highest_tag m.last) (Err TagsUsedUp) (cond (length m.facts == m.capacity) (Err Full) (Ok (m.last + 1)))

-- Adding puts the element after all others under the next time tag, which is then the last. A refusal changes nothing.
abbrev pub after_add : Model → Element → Model
after_add m e = cond (nat_le highest_tag m.last) m (cond (length m.facts == m.capacity) m (model (m.facts ++ fact (m.last + 1) e ∷ []) (m.last + 1) m.capacity))

-- removing is refused if no place has the time tag
abbrev pub removal : Option ℕ → Result (Unit {0}) MemoryRefusal
removal (Some p) = Ok tt
removal None = Err NoSuchTag

-- the list without the pair at the place, if there is such a place
abbrev pub without : Option ℕ → List Fact → List Fact
without (Some p) fs = remove fs p
without None fs = fs

-- what removing by a time tag answers
abbrev pub answer_remove : Model → ℕ → Result (Unit {0}) MemoryRefusal
answer_remove m t = removal (find_tag m.facts t)

-- removing drops the first pair that has the time tag, and changes nothing else
abbrev pub after_remove : Model → ℕ → Model
after_remove m t = model (without (find_tag m.facts t) m.facts) m.last m.capacity

-- clearing drops every pair, and changes nothing else
abbrev pub after_clear : Model → Model
after_clear m = model [] m.last m.capacity
