-- What a class means, and one attribute more. Assumes nothing.
use Rattle.std.specs.Prelude.{ℕ, cond, List, [], ◌∷◌, ◌++◌, length, is_some, Ok, Err, Option, Result, nat_eq, nat_le}
use Rattle.values.specs.Firsts.{first_from}
use Rattle.rows.specs.Shorts.{bytes_of}
use Rattle.rules.specs.declared.class.Class.{Class}
use Rattle.rules.specs.declared.refusal.NotTaken.{NotTaken}
use Rattle.rules.specs.declared.refusal.NotTaken.TheVariants.{Twice, TooMany}

-- a class by the numbers of its symbols, the attributes in the order of the declaration
pub record Declared : Type 0 where
  pub name : ℕ
  pub attributes : List ℕ

-- what a class of the code means
abbrev pub declared : Class → Declared
declared c = record { name = c.name; attributes = bytes_of c.attributes }

-- a class without attributes
abbrev pub new_class : ℕ → Declared
new_class n = record { name = n; attributes = [] }

-- the field of an attribute: its place in the declaration, counted from 1, since field 0 is the class
abbrev pub field_of : Declared → ℕ → Option ℕ
field_of c a = first_from (λ x. nat_eq x a) 1 c.attributes

-- one attribute more at the end
abbrev pub with_attribute : Declared → ℕ → Declared
with_attribute c a = record { name = c.name; attributes = c.attributes ++ a ∷ [] }

-- an attribute that the class has already is refused, then a sixteenth
abbrev pub answer_add : Declared → ℕ → Result (Unit {0}) NotTaken
answer_add c a = cond (is_some (field_of c a)) (Err Twice) (cond (nat_le 15 (length c.attributes)) (Err TooMany) (Ok tt))

-- the class after that; a refusal changes nothing
abbrev pub after_add : Declared → ℕ → Declared
after_add c a = cond (is_some (field_of c a)) c (cond (nat_le 15 (length c.attributes)) c (with_attribute c a))
