-- What a production contains, and the rules that it keeps. Assumes nothing.
use Rattle.std.specs.Prelude.{◌≡◌, ℕ, ◌+◌, ◌-◌, ◌<◌, ◌≤◌, Bool, true, false, cond, List, [], ◌∷◌, length, ℤ, is_some, Some, None, Option, slice_index_or}
use Rattle.std.specs.Str.{bytes_eq}
use Rattle.values.specs.Naming.{number_of, answer_intern}
use Rattle.values.specs.Spelling.{nameable}
use Rattle.rules.specs.Attributes.{Declared}
use Rattle.rules.specs.Rules.{Rule}
use Rattle.rules.specs.Sizes.{size_of_all, excessive}
use Rattle.languages.specs.Scripts.{judged_in, Faultless}
use Rattle.languages.specs.Naming.{class_at, class_named, field_at}
use Rattle.productions.specs.Forms.{Operand, fixed, named, Chosen, TestForm, bare, under, one_of, PairForm, Pattern, ConditionForm, positive, negative, SettingForm, ActionForm, making, modifying, removing, halting, ProductionForm}
use Rattle.productions.specs.Sofar.{rule_at, ordinal, binding}
use Rattle.productions.specs.Spelling.{production_script}
use Rattle.productions.specs.Said.{production_symbols, grown}

-- ---- rows

-- each of a row is so
abbrev pub Every : {X : Type 0} → (X → Type 0) → List X → Type 0
Every P [] = Unit {0}
Every P (x ∷ xs) = P x × Every P xs

-- there is one, and it is so
abbrev pub Found : {X : Type 0} → (X → Type 0) → Option X → Type 0
Found P None = ⊥
Found P (Some x) = P x

-- a class whose symbols have numbers below n
pub record Numbered (n : ℕ) (c : Declared) : Type 0 where
  pub name : c.name < n
  pub attributes : Every (λ a. a < n) c.attributes

-- every class that is declared has a name among these, and so has every attribute of it
abbrev pub Known : List Declared → List (List ℕ) → Type 0
Known cs ns = Every (Numbered (length ns)) cs

-- ---- what a production contains

-- a variable where it stands in a condition: its bytes, whether it stands there bare or under `=`, the number of the condition,
-- counted from 0, and whether that is negated
pub record Occurrence : Type 0 where
  pub word : List ℕ
  pub binds : Bool
  pub condition : ℕ
  pub negated : Bool

-- an attribute, and the class that has to have it
pub record Belonging : Type 0 where
  pub class : List ℕ
  pub attribute : List ℕ

-- all in text order: the variables of the conditions, those of the actions, the classes of patterns and of makes, the attributes,
-- the numbers of conditions in modifies and removes; and how many tests, constants of choices and settings there are, where the
-- class of a pattern counts as a test
pub record Contents : Type 0 where
  pub occurrences : List Occurrence
  pub used : List (List ℕ)
  pub classes : List (List ℕ)
  pub attributes : List Belonging
  pub ordinals : List ℤ
  pub tests : ℕ
  pub constants : ℕ
  pub settings : ℕ

-- no contents
abbrev pub nothing : Contents
nothing = record { occurrences = []; used = []; classes = []; attributes = []; ordinals = []; tests = 0; constants = 0; settings = 0 }

-- one thing more before the rest: a variable of a condition, a variable of an action, a class, an attribute, the number of a
-- condition, a test, a constant of a choice, a setting
abbrev pub occurring : Occurrence → Contents → Contents
occurring o r = record { occurrences = o ∷ r.occurrences; used = r.used; classes = r.classes; attributes = r.attributes; ordinals = r.ordinals; tests = r.tests; constants = r.constants; settings = r.settings }

abbrev pub valuing : List ℕ → Contents → Contents
valuing w r = record { occurrences = r.occurrences; used = w ∷ r.used; classes = r.classes; attributes = r.attributes; ordinals = r.ordinals; tests = r.tests; constants = r.constants; settings = r.settings }

abbrev pub of_class : List ℕ → Contents → Contents
of_class w r = record { occurrences = r.occurrences; used = r.used; classes = w ∷ r.classes; attributes = r.attributes; ordinals = r.ordinals; tests = r.tests; constants = r.constants; settings = r.settings }

abbrev pub belonging : List ℕ → List ℕ → Contents → Contents
belonging c a r = record { occurrences = r.occurrences; used = r.used; classes = r.classes; attributes = record { class = c; attribute = a } ∷ r.attributes; ordinals = r.ordinals; tests = r.tests; constants = r.constants; settings = r.settings }

abbrev pub naming : ℤ → Contents → Contents
naming k r = record { occurrences = r.occurrences; used = r.used; classes = r.classes; attributes = r.attributes; ordinals = k ∷ r.ordinals; tests = r.tests; constants = r.constants; settings = r.settings }

abbrev pub testing : Contents → Contents
testing r = record { occurrences = r.occurrences; used = r.used; classes = r.classes; attributes = r.attributes; ordinals = r.ordinals; tests = 1 + r.tests; constants = r.constants; settings = r.settings }

abbrev pub choosing : Contents → Contents
choosing r = record { occurrences = r.occurrences; used = r.used; classes = r.classes; attributes = r.attributes; ordinals = r.ordinals; tests = r.tests; constants = 1 + r.constants; settings = r.settings }

abbrev pub setting : Contents → Contents
setting r = record { occurrences = r.occurrences; used = r.used; classes = r.classes; attributes = r.attributes; ordinals = r.ordinals; tests = r.tests; constants = r.constants; settings = 1 + r.settings }

-- an operand of the condition n
abbrev pub operand_contents : ℕ → Bool → Bool → Operand → Contents → Contents
operand_contents n negated binds (fixed c) r = r
operand_contents n negated binds (named w) r = occurring (record { word = w; binds = binds; condition = n; negated = negated }) r

-- the words of a choice
abbrev pub choice_contents : List Chosen → Contents → Contents
choice_contents [] r = r
choice_contents (w ∷ ws) r = choosing (choice_contents ws r)

-- a test of the condition n
abbrev pub test_contents : ℕ → Bool → TestForm → Contents → Contents
test_contents n negated (bare o) r = operand_contents n negated true o r
test_contents n negated (under p o h) r = operand_contents n negated (binding p) o r
test_contents n negated (one_of w ws) r = choice_contents (w ∷ ws) r

-- the pairs of the condition n, which is of the class c
abbrev pub pairs_contents : ℕ → Bool → List ℕ → List PairForm → Contents → Contents
pairs_contents n negated c [] r = r
pairs_contents n negated c (p ∷ ps) r = belonging c p.attribute (testing (test_contents n negated p.test (pairs_contents n negated c ps r)))

-- the condition n
abbrev pub pattern_contents : ℕ → Bool → Pattern → Contents → Contents
pattern_contents n negated p r = of_class p.class (testing (pairs_contents n negated p.class p.pairs r))

-- the conditions from number n on
abbrev pub conditions_contents : ℕ → List ConditionForm → Contents → Contents
conditions_contents n [] r = r
conditions_contents n (positive p ∷ ps) r = pattern_contents n false p (conditions_contents (n + 1) ps r)
conditions_contents n (negative p ∷ ps) r = pattern_contents n true p (conditions_contents (n + 1) ps r)

-- the value of a setting
abbrev pub value_contents : Operand → Contents → Contents
value_contents (fixed c) r = r
value_contents (named w) r = valuing w r

-- settings of an element of the class c
abbrev pub settings_contents : List ℕ → List SettingForm → Contents → Contents
settings_contents c [] r = r
settings_contents c (s ∷ ss) r = belonging c s.attribute (setting (value_contents s.value (settings_contents c ss r)))

-- an action, where the unnegated patterns are of the classes ms: a modify is of the class of the pattern that it names, counted
-- from 1
abbrev pub action_contents : List (List ℕ) → ActionForm → Contents → Contents
action_contents ms (making c ss) r = of_class c (settings_contents c ss r)
action_contents ms (modifying k ss) r = naming k (settings_contents (slice_index_or ms (ordinal k - 1) []) ss r)
action_contents ms (removing k) r = naming k r
action_contents ms halting r = r

-- actions, where the unnegated patterns are of the classes ms
abbrev pub actions_contents : List (List ℕ) → List ActionForm → Contents → Contents
actions_contents ms [] r = r
actions_contents ms (a ∷ as') r = action_contents ms a (actions_contents ms as' r)

-- the classes of the unnegated patterns among conditions, and among all conditions of a production
abbrev pub unnegated_classes : List ConditionForm → List (List ℕ)
unnegated_classes [] = []
unnegated_classes (positive p ∷ ps) = p.class ∷ unnegated_classes ps
unnegated_classes (negative p ∷ ps) = unnegated_classes ps

abbrev pub matched : ProductionForm → List (List ℕ)
matched f = f.first.class ∷ unnegated_classes f.others

-- the contents of a production
abbrev pub contents : ProductionForm → Contents
contents f = pattern_contents 0 false f.first (conditions_contents 1 f.others (actions_contents (matched f) f.actions nothing))

-- ---- variables

-- the first occurrence of a variable
abbrev pub first_of : List Occurrence → List ℕ → Option Occurrence
first_of [] w = None
first_of (o ∷ os) w = cond (bytes_eq o.word w) (Some o) (first_of os w)

-- a row without this word
abbrev pub without : List ℕ → List (List ℕ) → List (List ℕ)
without w [] = []
without w (v ∷ vs) = cond (bytes_eq w v) (without w vs) (v ∷ without w vs)

-- the variables that occur, each once
abbrev pub variables_in : List Occurrence → List (List ℕ)
variables_in [] = []
variables_in (o ∷ os) = o.word ∷ without o.word (variables_in os)

-- ---- the rules

-- a variable that occurs as o is met rightly where it occurs first as m: bare or under `=`, and a variable that occurs first in a
-- negated condition occurs in that one only
pub record MetRightly (o m : Occurrence) : Type 0 where
  pub binds : m.binds ≡ true
  pub near : m.negated ≡ true → o.condition ≡ m.condition

-- the rules, where the declared classes are cs, the rules entered before rs and the names ns
pub record Keeps (cs : List Declared) (rs : List Rule) (ns : List (List ℕ)) (f : ProductionForm) : Type 0 where
  -- no rule has the number that the name has or gets, and there are fewer than 64
  pub name : rule_at rs (answer_intern ns f.name) ≡ false
  pub rules : length rs < 64
  -- at most 8 conditions, of which at most 6 are unnegated, and at most 8 actions
  pub conditions : 1 + length f.others ≤ 8
  pub unnegated : length (matched f) ≤ 6
  pub actions : length f.actions ≤ 8
  -- each class is declared, and has each attribute that it has to have
  pub classes : Every (λ w. is_some (class_at cs (number_of ns w)) ≡ true) (contents f).classes
  pub attributes : Every (λ b. is_some (field_at (class_named cs ns b.class) (number_of ns b.attribute)) ≡ true) (contents f).attributes
  -- each variable of a condition is met rightly; each variable of an action occurs first in an unnegated condition
  pub met : Every (λ o. Found (MetRightly o) (first_of (contents f).occurrences o.word)) (contents f).occurrences
  pub used : Every (λ w. Found (λ m. m.negated ≡ false) (first_of (contents f).occurrences w)) (contents f).used
  -- at most 16 variables, each of 1 to 24 bytes
  pub variables : length (variables_in (contents f).occurrences) ≤ 16
  pub long : Every (λ w. nameable w ≡ true) (variables_in (contents f).occurrences)
  -- each number of a condition is that of an unnegated one, counted from 1
  pub ordinals : Every (λ k. (1 ≤ ordinal k) × (ordinal k ≤ length (matched f))) (contents f).ordinals
  -- each symbol has a number in the end
  pub symbols : Every (λ w. is_some (number_of (grown ns (production_symbols f)) w) ≡ true) (production_symbols f)
  -- with the rules before it at most 512 tests, 256 constants of choices and 256 settings
  pub tests : (size_of_all rs).tests + (contents f).tests ≤ 512
  pub constants : (size_of_all rs).constants + (contents f).constants ≤ 256
  pub settings : (size_of_all rs).settings + (contents f).settings ≤ 256

-- nothing is wrong with the words of a production exactly where it keeps the rules, if all that is declared has a name and the
-- rules before it are within the limits
pub record RulesKept : Type 0 where
  pub kept : (cs : List Declared) (rs : List Rule) (ns : List (List ℕ)) (f : ProductionForm) → Known cs ns → excessive (size_of_all rs) ≡ false → Faultless (judged_in (production_script cs rs ns f)) → Keeps cs rs ns f
  pub faultless : (cs : List Declared) (rs : List Rule) (ns : List (List ℕ)) (f : ProductionForm) → Known cs ns → Keeps cs rs ns f → Faultless (judged_in (production_script cs rs ns f))
