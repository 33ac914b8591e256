-- The words of a production in their order, from `(` to `)`, each with what is wrong with it, and the rule that it asks for.
-- Assumes nothing.
use Rattle.std.specs.Prelude.{ℕ, Bool, true, false, List, [], ◌∷◌, ◌++◌, ℤ, codes}
use Rattle.words.specs.Kinds.{open', close', hat, minus, arrow, open_choice, close_choice, test, number, symbol}
use Rattle.words.specs.declared.token.Predicate.{Predicate}
use Rattle.values.specs.declared.value.Value.{Value}
use Rattle.values.specs.Naming.{after_intern}
use Rattle.rules.specs.Attributes.{Declared}
use Rattle.rules.specs.Fitness.{condition_class}
use Rattle.rules.specs.Rules.{plain, compared, choice, Condition, Setting, removes, halts, Rule}
use Rattle.rules.specs.Sizes.{size_of_all}
use Rattle.languages.specs.Senses.{sense}
use Rattle.languages.specs.Scripts.{Script, then', asks, judge, fine, or_fault}
use Rattle.languages.specs.Naming.{numbered, class_named, field_named, value_of, after_value, undeclared, lacking, value_fault}
use Rattle.productions.specs.Forms.{Operand, Chosen, constant_in, TestForm, bare, under, one_of, PairForm, Pattern, ConditionForm, positive, negative, SettingForm, ActionForm, making, modifying, removing, halting, ProductionForm}
use Rattle.productions.specs.Sofar.{Sofar, with_names, with_condition, with_action, one_test, one_constant, one_setting, with_test, rule_read, negated_fault, condition_fault, action_fault, test_fault, chosen_fault, setting_fault, name_fault, ordinal, ordinal_fault, operand_word, term_for, operand_fault, after_operand, given_fault, after_given, binding, Acting, on_make, on_modify, acting_class, action_with}

-- the rule that a production asks for, and the names after it: its new symbols are added in order of first use
abbrev pub Asked : Type 0
Asked = Rule × List (List ℕ)

-- nothing but the name was read, where the rules entered before are rs
abbrev pub begun : List Rule → List (List ℕ) → List ℕ → Sofar
begun rs ns w = record { names = after_intern ns w; name = numbered ns w; conditions = []; variables = []; actions = []; used = size_of_all rs }

-- where the declared classes are cs and the rules entered before rs
module _ (cs : List Declared) (rs : List Rule) where
  -- ---- actions

  -- the value of a setting; then comes what `go` says
  abbrev pub value_script : Sofar → List Setting → ℕ → Operand → (Sofar → List Setting → Script Asked) → Script Asked
  value_script d done f v go =
      then' (judge (operand_word v) (or_fault (given_fault d v) (setting_fault d)))
      (go (one_setting (after_given d v)) (done ++ record { field = f; value = term_for d v } ∷ []))

  -- the attribute of a setting of an action on the class c, and its value
  abbrev pub setting_script : Sofar → Declared → List Setting → SettingForm → (Sofar → List Setting → Script Asked) → Script Asked
  setting_script d c done s go =
      then' (judge (symbol s.attribute) (lacking c d.names s.attribute)) (value_script d done (field_named c d.names s.attribute) s.value go)

  -- the settings of an action behind those that are done, and `)`
  abbrev pub settings_script : Sofar → Acting → List Setting → List SettingForm → (Sofar → Script Asked) → Script Asked
  settings_script d a done [] go = then' (fine close') (go (with_action d (action_with a done)))
  settings_script d a done (s ∷ ss) go = then' (fine hat) (setting_script d (acting_class a) done s (λ e more. settings_script e a more ss go))

  -- the end of an action without settings
  abbrev pub close_script : Sofar → (Sofar → Script Asked) → Script Asked
  close_script d go = then' (fine close') (go d)

  -- the class of an element to make, and its settings
  abbrev pub make_script : Sofar → List ℕ → List SettingForm → (Sofar → Script Asked) → Script Asked
  make_script d c ss go = then' (judge (symbol c) (undeclared cs d.names c)) (settings_script d (on_make (class_named cs d.names c)) [] ss go)

  -- the condition whose element is modified, and the settings
  abbrev pub modify_script : Sofar → ℤ → List SettingForm → (Sofar → Script Asked) → Script Asked
  modify_script d k ss go =
      then' (judge (number k []) (ordinal_fault d k)) (settings_script d (on_modify (ordinal k) (condition_class d.conditions (ordinal k))) [] ss go)

  -- the condition whose element is removed
  abbrev pub remove_script : Sofar → ℤ → (Sofar → Script Asked) → Script Asked
  remove_script d k go = then' (judge (number k []) (ordinal_fault d k)) (close_script (with_action d (removes (ordinal k))) go)

  -- an action from its head on
  abbrev pub action_script : Sofar → ActionForm → (Sofar → Script Asked) → Script Asked
  action_script d (making c ss) go = then' (fine (symbol (codes "make"))) (make_script d c ss go)
  action_script d (modifying k ss) go = then' (fine (symbol (codes "modify"))) (modify_script d k ss go)
  action_script d (removing k) go = then' (fine (symbol (codes "remove"))) (remove_script d k go)
  action_script d halting go = then' (fine (symbol (codes "halt"))) (close_script (with_action d halts) go)

  -- actions, and the end of the production
  abbrev pub actions_script : Sofar → List ActionForm → Script Asked
  actions_script d [] = then' (fine close') (asks (rule_read d, d.names))
  actions_script d (a ∷ as') = then' (judge open' (action_fault d)) (action_script d a (λ e. actions_script e as'))

  -- ---- conditions

  -- one word of a choice: it counts as a constant
  abbrev pub chosen_script : Sofar → List Value → Chosen → (Sofar → List Value → Script Asked) → Script Asked
  chosen_script d vs w go =
      then' (judge (sense w.word) (or_fault (value_fault d.names (constant_in w.word)) (chosen_fault d)))
      (go (one_constant (with_names d (after_value d.names (constant_in w.word)))) (vs ++ value_of d.names (constant_in w.word) ∷ []))

  -- the words of a choice behind those read before, and `>>`
  abbrev pub choice_script : Sofar → List Value → List Chosen → (Sofar → List Value → Script Asked) → Script Asked
  choice_script d vs [] go = then' (fine close_choice) (go d vs)
  choice_script d vs (w ∷ ws) go = chosen_script d vs w (λ e us. choice_script e us ws go)

  -- what follows a predicate
  abbrev pub operand_script : Sofar → Condition → ℕ → Predicate → Operand → (Sofar → Condition → Script Asked) → Script Asked
  operand_script d c f p o go =
      then' (judge (operand_word o) (operand_fault d (binding p) o)) (go (after_operand d c.negated o) (with_test c f (compared p (term_for d o))))

  -- a test of the field f in the condition c
  abbrev pub test_script : Sofar → Condition → ℕ → TestForm → (Sofar → Condition → Script Asked) → Script Asked
  test_script d c f (bare o) go =
      then' (judge (operand_word o) (or_fault (operand_fault d true o) (test_fault d))) (go (after_operand (one_test d) c.negated o) (with_test c f (plain (term_for d o))))
  test_script d c f (under p o h) go = then' (judge (test p) (test_fault d)) (operand_script (one_test d) c f p o go)
  test_script d c f (one_of w ws) go =
      then' (judge open_choice (test_fault d)) (chosen_script (one_test d) [] w (λ e us. choice_script e us ws (λ i vs. go i (with_test c f (choice vs)))))

  -- the attribute of a test, and the test
  abbrev pub pair_script : Sofar → Condition → PairForm → (Sofar → Condition → Script Asked) → Script Asked
  pair_script d c p go =
      then' (judge (symbol p.attribute) (lacking c.class d.names p.attribute)) (test_script d c (field_named c.class d.names p.attribute) p.test go)

  -- the tests of a condition behind those that it has, and `)`
  abbrev pub pairs_script : Sofar → Condition → List PairForm → (Sofar → Script Asked) → Script Asked
  pairs_script d c [] go = then' (fine close') (go (with_condition d c))
  pairs_script d c (p ∷ ps) go = then' (fine hat) (pair_script d c p (λ e b. pairs_script e b ps go))

  -- a condition from its class on, which counts as a test
  abbrev pub pattern_script : Sofar → Bool → Pattern → (Sofar → Script Asked) → Script Asked
  pattern_script d negated p go =
      then' (judge (symbol p.class) (or_fault (undeclared cs d.names p.class) (test_fault d)))
      (pairs_script (one_test d) (record { negated = negated; class = class_named cs d.names p.class; tests = [] }) p.pairs go)

  -- the conditions behind the first one, `-->` and the actions
  abbrev pub conditions_script : Sofar → List ConditionForm → List ActionForm → Script Asked
  conditions_script d [] as' = then' (fine arrow) (actions_script d as')
  conditions_script d (positive p ∷ ps) as' = then' (judge open' (condition_fault d)) (pattern_script d false p (λ e. conditions_script e ps as'))
  conditions_script d (negative p ∷ ps) as' = then' (judge minus (negated_fault d)) (then' (fine open') (pattern_script d true p (λ e. conditions_script e ps as')))

  -- ---- the whole

  -- the conditions and the actions
  abbrev pub body_script : Sofar → Pattern → List ConditionForm → List ActionForm → Script Asked
  body_script d p ps as' = then' (fine open') (pattern_script d false p (λ e. conditions_script e ps as'))

  -- a production from its name on
  abbrev pub name_script : List (List ℕ) → ProductionForm → Script Asked
  name_script ns f = then' (judge (symbol f.name) (name_fault rs ns f.name)) (body_script (begun rs ns f.name) f.first f.others f.actions)

  -- a production, where the names at the start are ns
  abbrev pub production_script : List (List ℕ) → ProductionForm → Script Asked
  production_script ns f = then' (fine open') (then' (fine (symbol (codes "p"))) (name_script ns f))
