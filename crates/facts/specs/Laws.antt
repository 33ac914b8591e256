-- What the calls of a memory do, as relations between the memory before, the answer and the memory after; and that the
-- functions of the model say exactly these. Assumes nothing.
use Rattle.std.specs.Prelude.{◌≡◌, ℕ, ◌+◌, ◌<◌, ◌≤◌, ◌↔◌, List, [], ◌∷◌, ◌++◌, length, Some, None, Ok, Err, Option, Result, ◌≢◌}
use Rattle.std.specs.List.{AllByRecursion}
use Rattle.values.specs.declared.element.Element.{Element}
use Rattle.facts.specs.declared.fact.Fact.{Fact}
use Rattle.facts.specs.declared.refusal.MemoryRefusal.{MemoryRefusal}
use Rattle.facts.specs.declared.refusal.MemoryRefusal.TheVariants.{NoSuchTag, TagsUsedUp, Full}
use Rattle.facts.specs.Model.{Model, fact, highest_tag, tag_at, find_tag, answer_add, after_add, answer_remove, after_remove, after_clear}

-- no pair has the time tag
abbrev pub Lacks : List Fact → ℕ → Type 0
Lacks fs t = AllByRecursion (λ f. f.tag ≢ t) fs

-- the place is the first that has the time tag
pub record FirstAt (fs : List Fact) (t p : ℕ) : Type 0 where
  pub inside : p < length fs
  pub has : tag_at fs p ≡ t
  pub first : (k : ℕ) → k < p → tag_at fs k ≢ t

-- what looking for a time tag finds: the first place that has it, or that none has it
abbrev pub Found : List Fact → ℕ → Option ℕ → Type 0
Found fs t (Some p) = FirstAt fs t p
Found fs t None = Lacks fs t

-- An element was added: tags were left and the count was not the capacity; the pairs are those before and then the
-- element under the next tag, which is now the last; the capacity is as it was.
pub record Appended (before : Model) (e : Element) (tag : ℕ) (after : Model) : Type 0 where
  pub left : before.last < highest_tag
  pub free : length before.facts ≡ before.capacity → ⊥
  pub next : tag ≡ before.last + 1
  pub facts : after.facts ≡ before.facts ++ fact tag e ∷ []
  pub last : after.last ≡ tag
  pub capacity : after.capacity ≡ before.capacity

-- what adding does: it appends, or it is refused and changes nothing
abbrev pub Added : Model → Element → Result ℕ MemoryRefusal → Model → Type 0
Added before e (Ok tag) after = Appended before e tag after
Added before e (Err TagsUsedUp) after = (highest_tag ≤ before.last) × (after ≡ before)
Added before e (Err Full) after = (before.last < highest_tag) × (length before.facts ≡ before.capacity) × (after ≡ before)
Added before e (Err NoSuchTag) after = ⊥

-- A pair was dropped: it had the time tag, and none before it had; the others stand as they stood, and the last tag and
-- the capacity are as they were.
pub record Dropped (before : Model) (t : ℕ) (after : Model) : Type 0 where
  pub front : List Fact
  pub gone : Fact
  pub back : List Fact
  pub was : before.facts ≡ front ++ gone ∷ back
  pub has : gone.tag ≡ t
  pub first : Lacks front t
  pub facts : after.facts ≡ front ++ back
  pub last : after.last ≡ before.last
  pub capacity : after.capacity ≡ before.capacity

-- what removing by a time tag does: it drops the first pair that has it, or none has it and nothing changes
abbrev pub Removed : Model → ℕ → Result (Unit {0}) MemoryRefusal → Model → Type 0
Removed before t (Ok _) after = Dropped before t after
Removed before t (Err NoSuchTag) after = Lacks before.facts t × (after ≡ before)
Removed before t (Err TagsUsedUp) after = ⊥
Removed before t (Err Full) after = ⊥

-- what clearing does: no pair is left, and the last tag and the capacity are as they were
pub record Cleared (before after : Model) : Type 0 where
  pub facts : after.facts ≡ []
  pub last : after.last ≡ before.last
  pub capacity : after.capacity ≡ before.capacity

-- the functions of the model give exactly what these relations allow
pub record MemoryLaws : Type 0 where
  pub found : (fs : List Fact) (t : ℕ) (place : Option ℕ) → (place ≡ find_tag fs t) ↔ Found fs t place
  pub added : (before : Model) (e : Element) (answer : Result ℕ MemoryRefusal) (after : Model) → ((answer ≡ answer_add before) × (after ≡ after_add before e)) ↔ Added before e answer after
  pub removed : (before : Model) (t : ℕ) (answer : Result (Unit {0}) MemoryRefusal) (after : Model) → ((answer ≡ answer_remove before t) × (after ≡ after_remove before t)) ↔ Removed before t answer after
  pub cleared : (before after : Model) → (after ≡ after_clear before) ↔ Cleared before after
