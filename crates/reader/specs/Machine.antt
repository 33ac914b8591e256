-- Reading declarations and commands word by word: what the code computes. No public contract cites this; the proofs join it
-- to the forms. Assumes nothing.
use Rattle.std.specs.Prelude.{ℕ, cond, ◌||◌, List, length, ℤ, is_some, Some, None, codes, Option, nat_le, slice_set}
use Rattle.std.specs.Str.{bytes_eq}
use Rattle.words.specs.Kinds.{Kind}
use Rattle.values.specs.declared.value.Value.{Value}
use Rattle.values.specs.declared.value.Value.TheVariants.{Symbol, Number}
use Rattle.values.specs.Elements.{blank}
use Rattle.values.specs.Naming.{answer_intern, after_intern}
use Rattle.rules.specs.Attributes.{Declared, new_class, with_attribute}
use Rattle.reader.specs.declared.form.Phase.{Phase}
use Rattle.reader.specs.declared.form.Phase.TheVariants.{Declaring, Commanding}
use Rattle.languages.specs.declared.refusal.Cause.TheVariants.{UnexpectedWord}
use Rattle.languages.specs.Refusals.{Fault, wrong_name, over_limit}
use Rattle.languages.specs.Naming.{symbolic, numbered, unnameable, field_at, class_named, field_named, undeclared, lacking, value_fault}
use Rattle.reader.specs.Forms.{Act, makes, removes, removes_all, lists, declares, commands, Asked, class_fault}
use Rattle.languages.specs.Machines.{Step, onward, whole, fails, unless, refuse, on_open, on_close, on_hat, on_number, on_symbol}

-- what was read of a form, by what may come next; with the names so far
pub data State : Type 0 where
  opening head : Phase → List (List ℕ) → State
  class_name element_class tag : List (List ℕ) → State
  attributes : List (List ℕ) → Declared → State
  pairs attribute : List (List ℕ) → Declared → List Value → State
  field_value : List (List ℕ) → Declared → List Value → ℕ → State
  closing : List (List ℕ) → Act → State

abbrev pub Move : Type 0
Move = Step State Asked

-- a word that cannot continue the form
abbrev pub unexpected : Move
unexpected = fails UnexpectedWord

-- the word that says which form it is, by the phase
abbrev pub head_word : Phase → List (List ℕ) → List ℕ → Move
head_word Declaring ns w = cond (bytes_eq w (codes "literalize")) (onward (class_name ns)) unexpected
head_word Commanding ns w =
    cond (bytes_eq w (codes "make")) (onward (element_class ns))
    (cond (bytes_eq w (codes "remove")) (onward (tag ns))
    (cond (bytes_eq w (codes "wm")) (onward (closing ns lists)) unexpected))

-- the class of a declaration
abbrev pub class_word : List Declared → List (List ℕ) → List ℕ → Move
class_word cs ns w = unless (class_fault cs ns w) (onward (attributes (after_intern ns w) (new_class (numbered ns w))))

-- an attribute by its number: the class has it; then a sixteenth, or no name can be given
abbrev pub attribute_fault_by_number : Declared → List (List ℕ) → List ℕ → Option Fault
attribute_fault_by_number c ns w =
    cond (is_some (field_at c (answer_intern ns w))) (Some wrong_name)
    (cond (nat_le 15 (length c.attributes) || unnameable ns w) (Some over_limit) None)

-- an attribute of a declaration
abbrev pub attribute_word : List (List ℕ) → Declared → List ℕ → Move
attribute_word ns c w = unless (attribute_fault_by_number c ns w) (onward (attributes (after_intern ns w) (with_attribute c (numbered ns w))))

-- the class of an element to make
abbrev pub element_word : List Declared → List (List ℕ) → List ℕ → Move
element_word cs ns w = unless (undeclared cs ns w) (onward (pairs ns (class_named cs ns w) (blank (class_named cs ns w).name)))

-- an attribute of an element to make
abbrev pub field_word : List (List ℕ) → Declared → List Value → List ℕ → Move
field_word ns c e w = unless (lacking c ns w) (onward (field_value ns c e (field_named c ns w)))

-- a symbol as a value
abbrev pub symbol_word : List (List ℕ) → Declared → List Value → ℕ → List ℕ → Move
symbol_word ns c e f w = unless (value_fault ns (symbolic w)) (onward (pairs (after_intern ns w) c (slice_set e f (Symbol (numbered ns w)))))

-- a number as a value
abbrev pub number_word : List (List ℕ) → Declared → List Value → ℕ → ℤ → Move
number_word ns c e f n = onward (pairs ns c (slice_set e f (Number n)))

-- `*`, and no other symbol
abbrev pub every_word : List (List ℕ) → List ℕ → Move
every_word ns w = cond (bytes_eq w (codes "*")) (onward (closing ns removes_all)) unexpected

-- what a word does in a state
abbrev pub turned : List Declared → State → Kind → Move
turned cs (opening ph ns) k = on_open (onward (head ph ns)) refuse k
turned cs (head ph ns) k = on_symbol (head_word ph ns) refuse k
turned cs (class_name ns) k = on_symbol (class_word cs ns) refuse k
turned cs (attributes ns c) k = on_close (whole (declares c, ns)) (on_symbol (attribute_word ns c) refuse) k
turned cs (element_class ns) k = on_symbol (element_word cs ns) refuse k
turned cs (pairs ns c e) k = on_hat (onward (attribute ns c e)) (on_close (whole (commands (makes e), ns)) refuse) k
turned cs (attribute ns c e) k = on_symbol (field_word ns c e) refuse k
turned cs (field_value ns c e f) k = on_number (number_word ns c e f) (on_symbol (symbol_word ns c e f) refuse) k
turned cs (tag ns) k = on_number (λ n. onward (closing ns (removes n))) (on_symbol (every_word ns) refuse) k
turned cs (closing ns a) k = on_close (whole (commands a, ns)) refuse k
