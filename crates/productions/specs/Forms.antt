-- The forms of productions. Assumes nothing.
use Rattle.std.specs.Prelude.{◌≡◌, ℕ, Bool, true, false, not, List, ℤ}
use Rattle.words.specs.Kinds.{Kind, open', close', hat, minus, arrow, open_choice, close_choice, test, number, variable, symbol, illegal, spelled}
use Rattle.words.specs.declared.token.Predicate.{Predicate}
use Rattle.words.specs.declared.token.Predicate.TheVariants.{Equal, Unequal, Less, AtMost, Greater, AtLeast, SameKind}
use Rattle.languages.specs.Naming.{Constant, symbolic, numeric}

-- a constant, or a variable by its bytes
pub data Operand : Type 0 where
  fixed : Constant → Operand
  named : List ℕ → Operand

-- `<`, `<=`, `>` and `>=` compare numbers
abbrev pub ordering : Predicate → Bool
ordering Equal = false
ordering Unequal = false
ordering Less = true
ordering AtMost = true
ordering Greater = true
ordering AtLeast = true
ordering SameKind = false

-- so they take no symbol; the others take any operand
abbrev pub admits : Predicate → Operand → Bool
admits p (fixed (symbolic w)) = not (ordering p)
admits p (fixed (numeric n)) = true
admits p (named w) = true

-- a word that may stand in a choice: any plain word but `>>`
abbrev pub choosable : Kind → Bool
choosable open' = false
choosable close' = false
choosable hat = false
choosable minus = true
choosable arrow = true
choosable open_choice = true
choosable close_choice = false
choosable (test p) = true
choosable (number n w) = true
choosable (variable w) = true
choosable (symbol w) = true
choosable (illegal w) = false

-- the constant that a word is in a choice: a number, or else the symbol with the word's bytes
abbrev pub constant_in : Kind → Constant
constant_in open' = symbolic (spelled open')
constant_in close' = symbolic (spelled close')
constant_in hat = symbolic (spelled hat)
constant_in minus = symbolic (spelled minus)
constant_in arrow = symbolic (spelled arrow)
constant_in open_choice = symbolic (spelled open_choice)
constant_in close_choice = symbolic (spelled close_choice)
constant_in (test p) = symbolic (spelled (test p))
constant_in (number n w) = numeric n
constant_in (variable w) = symbolic w
constant_in (symbol w) = symbolic w
constant_in (illegal w) = symbolic w

-- a word of a choice
pub record Chosen : Type 0 where
  pub word : Kind
  pub plain : choosable word ≡ true

-- `OPERAND`, `PREDICATE OPERAND`, or `<< WORD WORD .. >>`
pub data TestForm : Type 0 where
  bare : Operand → TestForm
  under : (p : Predicate) (o : Operand) → admits p o ≡ true → TestForm
  one_of : Chosen → List Chosen → TestForm

-- `^ATTRIBUTE TEST`
pub record PairForm : Type 0 where
  pub attribute : List ℕ
  pub test : TestForm

-- `(CLASS ^ATTRIBUTE TEST ..)`
pub record Pattern : Type 0 where
  pub class : List ℕ
  pub pairs : List PairForm

-- a condition, with `-` before it where it is negated
pub data ConditionForm : Type 0 where
  positive : Pattern → ConditionForm
  negative : Pattern → ConditionForm

-- `^ATTRIBUTE VALUE`
pub record SettingForm : Type 0 where
  pub attribute : List ℕ
  pub value : Operand

-- `(make CLASS ^ATTRIBUTE VALUE ..)`, `(modify K ^ATTRIBUTE VALUE ..)`, `(remove K)` and `(halt)`
pub data ActionForm : Type 0 where
  making : (class : List ℕ) (settings : List SettingForm) → ActionForm
  modifying : ℤ → List SettingForm → ActionForm
  removing : ℤ → ActionForm
  halting : ActionForm

-- `(p NAME CONDITION CONDITION .. --> ACTION ..)`; the first condition is unnegated
pub record ProductionForm : Type 0 where
  pub name : List ℕ
  pub first : Pattern
  pub others : List ConditionForm
  pub actions : List ActionForm
