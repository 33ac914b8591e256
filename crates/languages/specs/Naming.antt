-- Symbols of a text, by the numbers that they have or get, and what can be wrong with one. Assumes nothing.
use Rattle.std.specs.Prelude.{◌≡◌, ℕ, Bool, cond, not, List, [], ◌++◌, ℤ, is_some, Some, None, Ok, Err, Option, Result}
use Rattle.std.specs.Option.{unwrap_or}
use Rattle.words.specs.Kinds.{Kind, number, symbol}
use Rattle.values.specs.declared.value.Value.{Value}
use Rattle.values.specs.declared.value.Value.TheVariants.{Symbol, Number}
use Rattle.values.specs.Naming.{number_of, answer_intern, after_intern}
use Rattle.rules.specs.Attributes.{Declared, declared, new_class, field_of}
use Rattle.rules.specs.declared.class.Class.{Class}
use Rattle.rules.specs.declared.place.Place.{Place}
use Rattle.languages.specs.declared.refusal.Cause.{Cause}
use Rattle.languages.specs.declared.refusal.Cause.TheVariants.{WrongName}
use Rattle.rules.specs.Declarations.{find_class}
use Rattle.languages.specs.Refusals.{Fault, wrong_name, over_limit}

-- the number that a symbol has, or gets as the next name; 0 where it can get none, which no accepted form has
abbrev pub numbered : List (List ℕ) → List ℕ → ℕ
numbered ns w = unwrap_or (answer_intern ns w) 0

-- a symbol that is no name yet and can become none: there is no room, or it is too long
abbrev pub unnameable : List (List ℕ) → List ℕ → Bool
unnameable ns w = not (is_some (answer_intern ns w))

-- names are only added
abbrev pub Grows : List (List ℕ) → List (List ℕ) → Type 0
Grows ns ms = (added : List (List ℕ)) × (ms ≡ ns ++ added)

-- the class whose symbol has the number
abbrev pub class_at : List Declared → Option ℕ → Option Declared
class_at cs None = None
class_at cs (Some i) = find_class cs i

-- the field of the attribute whose symbol has the number
abbrev pub field_at : Declared → Option ℕ → Option ℕ
field_at c None = None
field_at c (Some i) = field_of c i

-- a declared class, by its word; where it is undeclared, which no accepted form has, one without attributes
abbrev pub class_named : List Declared → List (List ℕ) → List ℕ → Declared
class_named cs ns w = unwrap_or (class_at cs (number_of ns w)) (new_class 0)

-- the field of an attribute, by its word; where the class lacks it, which no accepted form has, 0
abbrev pub field_named : Declared → List (List ℕ) → List ℕ → ℕ
field_named c ns w = unwrap_or (field_at c (number_of ns w)) 0

-- looking a declared class up by its word: the class that was found, or else a wrong name
abbrev pub FindsClass : List Declared → List (List ℕ) → List ℕ → Result Class Cause → Type 0
FindsClass cs ns w (Ok c) = class_at cs (number_of ns w) ≡ Some (declared c)
FindsClass cs ns w (Err x) = (class_at cs (number_of ns w) ≡ None) × (x ≡ WrongName)

-- looking an attribute of a class up by its word: the field that was found, or else a wrong name
abbrev pub FindsField : Declared → List (List ℕ) → List ℕ → Result Place Cause → Type 0
FindsField c ns w (Ok p) = field_at c (number_of ns w) ≡ Some p.number
FindsField c ns w (Err x) = (field_at c (number_of ns w) ≡ None) × (x ≡ WrongName)

-- ---- constants

-- a constant of a text, its symbol by its bytes
pub data Constant : Type 0 where
  symbolic : List ℕ → Constant
  numeric : ℤ → Constant

-- the word that spells a constant; a number by its value
abbrev pub constant_word : Constant → Kind
constant_word (symbolic w) = symbol w
constant_word (numeric n) = number n []

-- the value of a constant
abbrev pub value_of : List (List ℕ) → Constant → Value
value_of ns (symbolic w) = Symbol (numbered ns w)
value_of ns (numeric n) = Number n

-- the names after a constant
abbrev pub after_value : List (List ℕ) → Constant → List (List ℕ)
after_value ns (symbolic w) = after_intern ns w
after_value ns (numeric n) = ns

-- ---- what is wrong with a word

-- a class that has to be declared, and is not
abbrev pub undeclared : List Declared → List (List ℕ) → List ℕ → Option Fault
undeclared cs ns w = cond (is_some (class_at cs (number_of ns w))) None (Some wrong_name)

-- an attribute that the class has to have, and lacks
abbrev pub lacking : Declared → List (List ℕ) → List ℕ → Option Fault
lacking c ns w = cond (is_some (field_at c (number_of ns w))) None (Some wrong_name)

-- a value: a symbol to which no name can be given
abbrev pub value_fault : List (List ℕ) → Constant → Option Fault
value_fault ns (symbolic w) = cond (unnameable ns w) (Some over_limit) None
value_fault ns (numeric n) = None
