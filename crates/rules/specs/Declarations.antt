-- The declared classes, and one more. Assumes nothing.
use Rattle.std.specs.Prelude.{ℕ, cond, List, [], ◌∷◌, ◌++◌, map, length, is_some, Some, None, Ok, Err, Option, Result, ◌==◌, nat_le}
use Rattle.rules.specs.Attributes.{Declared, declared}
use Rattle.rules.specs.declared.classes.Classes.{Classes}
use Rattle.rules.specs.declared.refusal.NotTaken.{NotTaken}
use Rattle.rules.specs.declared.refusal.NotTaken.TheVariants.{Twice, TooMany}

-- the classes in the order of their declaration
abbrev pub classes_of : Classes → List Declared
classes_of c = map declared c.list

-- the first class with the symbol
abbrev pub find_class : List Declared → ℕ → Option Declared
find_class [] n = None
find_class (c ∷ cs) n = cond (c.name == n) (Some c) (find_class cs n)

-- a class whose symbol is declared already is refused, then a seventeenth
abbrev pub answer_declare : List Declared → Declared → Result (Unit {0}) NotTaken
answer_declare cs c = cond (is_some (find_class cs c.name)) (Err Twice) (cond (nat_le 16 (length cs)) (Err TooMany) (Ok tt))

-- the classes after that; a refusal changes nothing
abbrev pub after_declare : List Declared → Declared → List Declared
after_declare cs c = cond (is_some (find_class cs c.name)) cs (cond (nat_le 16 (length cs)) cs (cs ++ c ∷ []))
