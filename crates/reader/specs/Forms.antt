-- Declarations and commands: their forms, the words that spell each, and what each asks for. Assumes nothing.
use Rattle.std.specs.Prelude.{ℕ, Bool, false, cond, ◌||◌, List, [], ◌∷◌, ◌++◌, length, ℤ, is_some, Some, None, codes, Option, nat_le, slice_set}
use Rattle.std.specs.Str.{bytes_eq}
use Rattle.words.specs.Kinds.{open', close', hat, number, symbol}
use Rattle.values.specs.declared.value.Value.{Value}
use Rattle.values.specs.Elements.{blank}
use Rattle.values.specs.Naming.{answer_intern, after_intern}
use Rattle.rules.specs.Attributes.{Declared, new_class, with_attribute}
use Rattle.reader.specs.declared.form.Phase.{Phase}
use Rattle.reader.specs.declared.form.Phase.TheVariants.{Declaring, Commanding}
use Rattle.languages.specs.Naming.{Constant, numbered, unnameable, class_at, class_named, field_named, constant_word, value_of, after_value, undeclared, lacking, value_fault}
use Rattle.languages.specs.Refusals.{Fault, wrong_name, over_limit}
use Rattle.languages.specs.Scripts.{Script, then', asks, judge, fine}

-- ---- forms

-- `(literalize CLASS ATTRIBUTE ..)`
pub record DeclarationForm : Type 0 where
  pub class : List ℕ
  pub attributes : List (List ℕ)

-- `^ATTRIBUTE VALUE`
pub record Setting : Type 0 where
  pub attribute : List ℕ
  pub value : Constant

-- a time tag, or `*` for every one
pub data Target : Type 0 where
  one : ℤ → Target
  every : Target

-- `(make CLASS ^ATTRIBUTE VALUE ..)`, `(remove TAG)` or `(remove *)`, and `(wm)`
pub data CommandForm : Type 0 where
  make : (class : List ℕ) (settings : List Setting) → CommandForm
  remove : Target → CommandForm
  list_memory : CommandForm

-- the forms of a phase
abbrev pub FormOf : Phase → Type 0
FormOf Declaring = DeclarationForm
FormOf Commanding = CommandForm

-- ---- what a form asks for

-- what a command asks for; an element by its values
pub data Act : Type 0 where
  makes : List Value → Act
  removes : ℤ → Act
  removes_all lists : Act

-- a class, by the numbers of its symbols, or a command
pub data Entry : Type 0 where
  declares : Declared → Entry
  commands : Act → Entry

-- what a form asks for, and the names after it: its new symbols are added in order of first use
abbrev pub Asked : Type 0
Asked = Entry × List (List ℕ)

-- ---- what is wrong with a word of a declaration; the lower number first

-- whether a word is one of these
abbrev pub among : List ℕ → List (List ℕ) → Bool
among w [] = false
among w (x ∷ xs) = bytes_eq x w || among w xs

-- the class of a declaration: a class has the number that its symbol has or gets; then one class too many, or no name can
-- be given
abbrev pub class_fault : List Declared → List (List ℕ) → List ℕ → Option Fault
class_fault cs ns w =
    cond (is_some (class_at cs (answer_intern ns w))) (Some wrong_name)
    (cond (nat_le 16 (length cs) || unnameable ns w) (Some over_limit) None)

-- an attribute of a declaration, after others: named already; then a sixteenth, or no name can be given
abbrev pub attribute_fault : List (List ℕ) → List (List ℕ) → List ℕ → Option Fault
attribute_fault ns seen w =
    cond (among w seen) (Some wrong_name)
    (cond (nat_le 15 (length seen) || unnameable ns w) (Some over_limit) None)

-- ---- the words of a form in their order, from `(` to `)`, where the classes are cs and the names at the start ns

-- the attributes of a declaration after those in `seen`, which the class c has, and the end of the declaration
abbrev pub attributes_script : Declared → List (List ℕ) → List (List ℕ) → List (List ℕ) → Script Asked
attributes_script c ns seen [] = then' (fine close') (asks (declares c, ns))
attributes_script c ns seen (x ∷ xs) =
    then' (judge (symbol x) (attribute_fault ns seen x)) (attributes_script (with_attribute c (numbered ns x)) (after_intern ns x) (seen ++ x ∷ []) xs)

-- the class of a declaration, and the rest of it
abbrev pub class_script : List Declared → List (List ℕ) → DeclarationForm → Script Asked
class_script cs ns d =
    then' (judge (symbol d.class) (class_fault cs ns d.class))
    (attributes_script (new_class (numbered ns d.class)) (after_intern ns d.class) [] d.attributes)

abbrev pub declaration_script : List Declared → List (List ℕ) → DeclarationForm → Script Asked
declaration_script cs ns d = then' (fine open') (then' (fine (symbol (codes "literalize"))) (class_script cs ns d))

-- the end of a command
abbrev pub close_script : Act → List (List ℕ) → Script Asked
close_script a ns = then' (fine close') (asks (commands a, ns))

-- the settings of a make of the class c: `^`, attribute and value of each; e has the values set before
abbrev pub settings_script : Declared → List (List ℕ) → List Value → List Setting → Script Asked
settings_script c ns e [] = close_script (makes e) ns
settings_script c ns e (s ∷ ss) =
    then' (fine hat)
    (then' (judge (symbol s.attribute) (lacking c ns s.attribute))
    (then' (judge (constant_word s.value) (value_fault ns s.value))
    (settings_script c (after_value ns s.value) (slice_set e (field_named c ns s.attribute) (value_of ns s.value)) ss)))

-- the class of an element to make, and the rest of the make
abbrev pub make_script : List Declared → List (List ℕ) → List ℕ → List Setting → Script Asked
make_script cs ns c ss =
    then' (judge (symbol c) (undeclared cs ns c)) (settings_script (class_named cs ns c) ns (blank (class_named cs ns c).name) ss)

-- what is removed
abbrev pub target_script : List (List ℕ) → Target → Script Asked
target_script ns (one n) = then' (fine (number n [])) (close_script (removes n) ns)
target_script ns every = then' (fine (symbol (codes "*"))) (close_script removes_all ns)

-- the head of a command, and the rest of it
abbrev pub head_script : List Declared → List (List ℕ) → CommandForm → Script Asked
head_script cs ns (make c ss) = then' (fine (symbol (codes "make"))) (make_script cs ns c ss)
head_script cs ns (remove t) = then' (fine (symbol (codes "remove"))) (target_script ns t)
head_script cs ns list_memory = then' (fine (symbol (codes "wm"))) (close_script lists ns)

abbrev pub command_script : List Declared → List (List ℕ) → CommandForm → Script Asked
command_script cs ns f = then' (fine open') (head_script cs ns f)
