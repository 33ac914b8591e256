-- The words that spell a production, and its symbols in order of use, whatever is declared and named. Assumes nothing.
use Rattle.std.specs.Prelude.{◌≡◌, ℕ, List, [], ◌∷◌, ◌++◌, codes}
use Rattle.words.specs.Kinds.{Kind, open', close', hat, minus, arrow, open_choice, close_choice, test, number, symbol}
use Rattle.values.specs.Naming.{after_intern}
use Rattle.rules.specs.Attributes.{Declared}
use Rattle.rules.specs.Rules.{Rule}
use Rattle.languages.specs.Scripts.{Script, then', asks, asked_by}
use Rattle.languages.specs.Senses.{sense}
use Rattle.languages.specs.Naming.{Constant, symbolic, numeric}
use Rattle.productions.specs.Forms.{Operand, fixed, named, constant_in, Chosen, TestForm, bare, under, one_of, PairForm, Pattern, ConditionForm, positive, negative, SettingForm, ActionForm, making, modifying, removing, halting, ProductionForm}
use Rattle.productions.specs.Sofar.{operand_word}
use Rattle.productions.specs.Spelling.{production_script}

-- ---- words

abbrev pub chosen_words : List Chosen → List Kind
chosen_words [] = []
chosen_words (w ∷ ws) = sense w.word ∷ chosen_words ws

abbrev pub test_words : TestForm → List Kind
test_words (bare o) = operand_word o ∷ []
test_words (under p o h) = test p ∷ operand_word o ∷ []
test_words (one_of w ws) = open_choice ∷ (chosen_words (w ∷ ws) ++ close_choice ∷ [])

abbrev pub pairs_words : List PairForm → List Kind
pairs_words [] = []
pairs_words (p ∷ ps) = hat ∷ symbol p.attribute ∷ (test_words p.test ++ pairs_words ps)

abbrev pub pattern_words : Pattern → List Kind
pattern_words p = open' ∷ symbol p.class ∷ (pairs_words p.pairs ++ close' ∷ [])

abbrev pub conditions_words : List ConditionForm → List Kind
conditions_words [] = []
conditions_words (positive p ∷ ps) = pattern_words p ++ conditions_words ps
conditions_words (negative p ∷ ps) = minus ∷ (pattern_words p ++ conditions_words ps)

abbrev pub settings_words : List SettingForm → List Kind
settings_words [] = []
settings_words (s ∷ ss) = hat ∷ symbol s.attribute ∷ operand_word s.value ∷ settings_words ss

-- an action between its parentheses
abbrev pub action_words : ActionForm → List Kind
action_words (making c ss) = symbol (codes "make") ∷ symbol c ∷ settings_words ss
action_words (modifying k ss) = symbol (codes "modify") ∷ number k [] ∷ settings_words ss
action_words (removing k) = symbol (codes "remove") ∷ number k [] ∷ []
action_words halting = symbol (codes "halt") ∷ []

abbrev pub actions_words : List ActionForm → List Kind
actions_words [] = []
actions_words (a ∷ as') = open' ∷ (action_words a ++ close' ∷ actions_words as')

-- `(p NAME CONDITION .. --> ACTION ..)`
abbrev pub production_words : ProductionForm → List Kind
production_words f =
    open' ∷ symbol (codes "p") ∷ symbol f.name
    ∷ (pattern_words f.first ++ (conditions_words f.others ++ arrow ∷ (actions_words f.actions ++ close' ∷ [])))

-- ---- symbols that get names, in order of use: the production's name, and then every constant that is a symbol

abbrev pub constant_symbols : Constant → List (List ℕ)
constant_symbols (symbolic w) = w ∷ []
constant_symbols (numeric n) = []

abbrev pub operand_symbols : Operand → List (List ℕ)
operand_symbols (fixed c) = constant_symbols c
operand_symbols (named w) = []

abbrev pub chosen_symbols : List Chosen → List (List ℕ)
chosen_symbols [] = []
chosen_symbols (w ∷ ws) = constant_symbols (constant_in w.word) ++ chosen_symbols ws

abbrev pub test_symbols : TestForm → List (List ℕ)
test_symbols (bare o) = operand_symbols o
test_symbols (under p o h) = operand_symbols o
test_symbols (one_of w ws) = chosen_symbols (w ∷ ws)

abbrev pub pairs_symbols : List PairForm → List (List ℕ)
pairs_symbols [] = []
pairs_symbols (p ∷ ps) = test_symbols p.test ++ pairs_symbols ps

abbrev pub conditions_symbols : List ConditionForm → List (List ℕ)
conditions_symbols [] = []
conditions_symbols (positive p ∷ ps) = pairs_symbols p.pairs ++ conditions_symbols ps
conditions_symbols (negative p ∷ ps) = pairs_symbols p.pairs ++ conditions_symbols ps

abbrev pub settings_symbols : List SettingForm → List (List ℕ)
settings_symbols [] = []
settings_symbols (s ∷ ss) = operand_symbols s.value ++ settings_symbols ss

abbrev pub action_symbols : ActionForm → List (List ℕ)
action_symbols (making c ss) = settings_symbols ss
action_symbols (modifying k ss) = settings_symbols ss
action_symbols (removing k) = []
action_symbols halting = []

abbrev pub actions_symbols : List ActionForm → List (List ℕ)
actions_symbols [] = []
actions_symbols (a ∷ as') = action_symbols a ++ actions_symbols as'

abbrev pub production_symbols : ProductionForm → List (List ℕ)
production_symbols f = f.name ∷ (pairs_symbols f.first.pairs ++ (conditions_symbols f.others ++ actions_symbols f.actions))

-- ---- the law

-- the words of a script
abbrev pub words_in : {E : Type 0} → Script E → List Kind
words_in (then' j x) = j.word ∷ words_in x
words_in (asks e) = []

-- the names with each of these symbols among them, in their order
abbrev pub grown : List (List ℕ) → List (List ℕ) → List (List ℕ)
grown ns [] = ns
grown ns (w ∷ ws) = grown (after_intern ns w) ws

-- what is wrong with a word depends on what was read before it, but which words spell a production does not, nor how many
-- there are; and the names grow by its symbols in order of use
pub record Said : Type 0 where
  pub words : (cs : List Declared) (rs : List Rule) (ns : List (List ℕ)) (f : ProductionForm) → words_in (production_script cs rs ns f) ≡ production_words f
  pub names : (cs : List Declared) (rs : List Rule) (ns : List (List ℕ)) (f : ProductionForm) → (asked_by (production_script cs rs ns f)).1 ≡ grown ns (production_symbols f)
