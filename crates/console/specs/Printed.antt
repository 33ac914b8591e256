-- The lines that a session prints. Assumes nothing.
use Rattle.std.specs.Prelude.{◌≡◌, ℕ, ◌+◌, Bool, false, cond, List, [], ◌∷◌, ◌++◌, Some, None, codes, decimal, Option, ◌==◌, slice_index_or}
use Rattle.std.specs.Fmt.{signed_decimal}
use Rattle.values.specs.declared.value.Value.{Value}
use Rattle.values.specs.declared.value.Value.TheVariants.{Symbol, Number}
use Rattle.values.specs.Elements.{nil}
use Rattle.rules.specs.Attributes.{Declared}
use Rattle.rules.specs.Declarations.{find_class}
use Rattle.facts.specs.declared.refusal.MemoryRefusal.{MemoryRefusal}
use Rattle.facts.specs.Model.{refusal_number}
use Rattle.languages.specs.declared.refusal.Refusal.{Refusal}
use Rattle.languages.specs.Refusals.{cause_number}

-- what is printed in the end is what was printed before, and then bytes of which P holds
abbrev pub Appends : List ℕ → List ℕ → (List ℕ → Type 0) → Type 0
Appends before after P = (bytes : List ℕ) × (after ≡ before ++ bytes) × P bytes

-- what ends a line
abbrev pub line_feed : List ℕ
line_feed = 10 ∷ []

-- the name of a symbol, no bytes where it has none
abbrev pub name_of : List (List ℕ) → ℕ → List ℕ
name_of names s = slice_index_or names s []

-- a symbol by its name, a number in decimal
abbrev pub value_text : List (List ℕ) → Value → List ℕ
value_text names (Symbol s) = name_of names s
value_text names (Number n) = signed_decimal n

-- the value is nil, which is symbol 0
abbrev pub is_nil : Value → Bool
is_nil (Symbol s) = s == 0
is_nil (Number n) = false

-- a field as ` ^ATTRIBUTE VALUE`, no bytes where its value is nil
abbrev pub field_text : List (List ℕ) → ℕ → Value → List ℕ
field_text names attribute v = cond (is_nil v) [] (codes " ^" ++ name_of names attribute ++ codes " " ++ value_text names v)

-- the fields of these attributes, of which the first has the field numbered n
abbrev pub fields_text : List (List ℕ) → ℕ → List ℕ → List Value → List ℕ
fields_text names n [] values = []
fields_text names n (a ∷ others) values = field_text names a (slice_index_or values n nil) ++ fields_text names (n + 1) others values

-- the symbol that a value is, 0 where it is a number
abbrev pub symbol_of : Value → ℕ
symbol_of (Symbol s) = s
symbol_of (Number n) = 0

-- the class symbol of an element with these values: field 0
abbrev pub class_symbol : List Value → ℕ
class_symbol values = symbol_of (slice_index_or values 0 nil)

-- the attributes of a class, none where it is not declared
abbrev pub attributes_of : Option Declared → List ℕ
attributes_of (Some c) = c.attributes
attributes_of None = []

-- the line of an element: `TAG: (CLASS ^ATTRIBUTE VALUE ..)`, the fields in the order of the class's declaration
abbrev pub element_line : List (List ℕ) → List Declared → ℕ → List Value → List ℕ
element_line names classes tag values =
    decimal tag ++ codes ": (" ++ name_of names (class_symbol values)
    ++ fields_text names 1 (attributes_of (find_class classes (class_symbol values))) values
    ++ codes ")" ++ line_feed

-- the line of a memory's refusal: `refused NUMBER memory - -`
abbrev pub memory_refused : MemoryRefusal → List ℕ
memory_refused refusal = codes "refused " ++ decimal (refusal_number refusal) ++ codes " memory - -" ++ line_feed

-- the line of a reader's refusal: `refused NUMBER reader PLACE`
abbrev pub reader_refused : Refusal → List ℕ
reader_refused refusal = codes "refused " ++ decimal (cause_number refusal.cause) ++ codes " reader " ++ decimal refusal.place ++ line_feed
