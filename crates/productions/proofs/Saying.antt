-- The words of a production and the growth of its names, read off its script. Assumes nothing.
use Rattle.std.proofs.Common.{◌≡◌, ℕ, Bool, true, false, List, [], ◌∷◌, ◌++◌, codes, sym, refl, ap, ◌∙◌, append_assoc}
use Rattle.words.specs.Kinds.{Kind, open', close', hat, minus, arrow, open_choice, close_choice, test, number, symbol}
use Rattle.values.specs.declared.value.Value.{Value}
use Rattle.rules.specs.Attributes.{Declared}
use Rattle.rules.specs.Rules.{Condition, Setting, Rule}
use Rattle.languages.specs.Scripts.{Script, asked_by}
use Rattle.languages.specs.Senses.{sense}
use Rattle.languages.specs.Naming.{Constant, symbolic, numeric, after_value, field_named}
use Rattle.productions.specs.Forms.{Operand, fixed, named, constant_in, Chosen, TestForm, bare, under, one_of, PairForm, Pattern, ConditionForm, positive, negative, SettingForm, ActionForm, making, modifying, removing, halting, ProductionForm}
use Rattle.productions.specs.Sofar.{Sofar, operand_word, after_operand, after_given, Acting}
use Rattle.productions.specs.Spelling.{Asked, settings_script, action_script, actions_script, choice_script, test_script, pairs_script, pattern_script, conditions_script, production_script}
use Rattle.productions.specs.Said.{chosen_words, test_words, pairs_words, pattern_words, conditions_words, settings_words, action_words, actions_words, production_words, constant_symbols, operand_symbols, chosen_symbols, test_symbols, pairs_symbols, conditions_symbols, settings_symbols, action_symbols, actions_symbols, production_symbols, words_in, grown, Said}

module _ (cs : List Declared) (rs : List Rule) where
  -- ---- words

  choice-words : (ws : List Chosen) (d : Sofar) (vs : List Value) (go : Sofar → List Value → Script Asked) (more : List Kind) → ((e : Sofar) (us : List Value) → words_in (go e us) ≡ more) → words_in (choice_script cs rs d vs ws go) ≡ chosen_words ws ++ close_choice ∷ more
  choice-words [] d vs go more h = ap (λ l. close_choice ∷ l) (h d vs)
  choice-words (w ∷ ws) d vs go more h = ap (λ l. sense w.word ∷ l) (choice-words ws _ _ go more h)

  test_words_lem : (t : TestForm) (d : Sofar) (c : Condition) (f : ℕ) (go : Sofar → Condition → Script Asked) (more : List Kind) → ((e : Sofar) (b : Condition) → words_in (go e b) ≡ more) → words_in (test_script cs rs d c f t go) ≡ test_words t ++ more
  test_words_lem (bare o) d c f go more h = ap (λ l. operand_word o ∷ l) (h _ _)
  test_words_lem (under p o i) d c f go more h = ap (λ l. test p ∷ operand_word o ∷ l) (h _ _)
  test_words_lem (one_of w ws) d c f go more h =
      ap (λ l. open_choice ∷ sense w.word ∷ l) (choice-words ws _ _ _ more (λ e us. h e _) ∙ sym (append_assoc (chosen_words ws) (close_choice ∷ []) more))

  pairs-words : (ps : List PairForm) (d : Sofar) (c : Condition) (go : Sofar → Script Asked) (more : List Kind) → ((e : Sofar) → words_in (go e) ≡ more) → words_in (pairs_script cs rs d c ps go) ≡ pairs_words ps ++ close' ∷ more
  pairs-words [] d c go more h = ap (λ l. close' ∷ l) (h _)
  pairs-words (p ∷ ps) d c go more h =
      ap (λ l. hat ∷ symbol p.attribute ∷ l)
      (test_words_lem p.test d c (field_named c.class d.names p.attribute) (λ e b. pairs_script cs rs e b ps go) (pairs_words ps ++ close' ∷ more) (λ e b. pairs-words ps e b go more h) ∙ sym (append_assoc (test_words p.test) (pairs_words ps) (close' ∷ more)))

  -- a condition from its class on
  pattern_words_lem : (p : Pattern) (d : Sofar) (negated : Bool) (go : Sofar → Script Asked) (more : List Kind) → ((e : Sofar) → words_in (go e) ≡ more) → open' ∷ words_in (pattern_script cs rs d negated p go) ≡ pattern_words p ++ more
  pattern_words_lem p d negated go more h =
      ap (λ l. open' ∷ symbol p.class ∷ l) (pairs-words p.pairs _ _ go more h ∙ sym (append_assoc (pairs_words p.pairs) (close' ∷ []) more))

  settings-words : (ss : List SettingForm) (d : Sofar) (a : Acting) (done : List Setting) (go : Sofar → Script Asked) (more : List Kind) → ((e : Sofar) → words_in (go e) ≡ more) → words_in (settings_script cs rs d a done ss go) ≡ settings_words ss ++ close' ∷ more
  settings-words [] d a done go more h = ap (λ l. close' ∷ l) (h _)
  settings-words (s ∷ ss) d a done go more h = ap (λ l. hat ∷ symbol s.attribute ∷ operand_word s.value ∷ l) (settings-words ss _ a _ go more h)

  action_words_lem : (a : ActionForm) (d : Sofar) (go : Sofar → Script Asked) (more : List Kind) → ((e : Sofar) → words_in (go e) ≡ more) → words_in (action_script cs rs d a go) ≡ action_words a ++ close' ∷ more
  action_words_lem (making c ss) d go more h = ap (λ l. symbol (codes "make") ∷ symbol c ∷ l) (settings-words ss _ _ _ go more h)
  action_words_lem (modifying k ss) d go more h = ap (λ l. symbol (codes "modify") ∷ number k [] ∷ l) (settings-words ss _ _ _ go more h)
  action_words_lem (removing k) d go more h = ap (λ l. symbol (codes "remove") ∷ number k [] ∷ close' ∷ l) (h _)
  action_words_lem halting d go more h = ap (λ l. symbol (codes "halt") ∷ close' ∷ l) (h _)

  actions-words : (as' : List ActionForm) (d : Sofar) → words_in (actions_script cs rs d as') ≡ actions_words as' ++ close' ∷ []
  actions-words [] d = refl
  actions-words (a ∷ as') d =
      ap (λ l. open' ∷ l) (action_words_lem a d _ (actions_words as' ++ close' ∷ []) (λ e. actions-words as' e) ∙ sym (append_assoc (action_words a) (close' ∷ actions_words as') (close' ∷ [])))

  conditions-words : (ps : List ConditionForm) (as' : List ActionForm) (d : Sofar) → words_in (conditions_script cs rs d ps as') ≡ conditions_words ps ++ arrow ∷ (actions_words as' ++ close' ∷ [])
  conditions-words [] as' d = ap (λ l. arrow ∷ l) (actions-words as' d)
  conditions-words (positive p ∷ ps) as' d =
      pattern_words_lem p d false _ (conditions_words ps ++ arrow ∷ (actions_words as' ++ close' ∷ [])) (λ e. conditions-words ps as' e)
      ∙ sym (append_assoc (pattern_words p) (conditions_words ps) (arrow ∷ (actions_words as' ++ close' ∷ [])))
  conditions-words (negative p ∷ ps) as' d =
      ap (λ l. minus ∷ l)
      (pattern_words_lem p d true _ (conditions_words ps ++ arrow ∷ (actions_words as' ++ close' ∷ [])) (λ e. conditions-words ps as' e)
      ∙ sym (append_assoc (pattern_words p) (conditions_words ps) (arrow ∷ (actions_words as' ++ close' ∷ []))))

  production_words_lem : (ns : List (List ℕ)) (f : ProductionForm) → words_in (production_script cs rs ns f) ≡ production_words f
  production_words_lem ns f =
      ap (λ l. open' ∷ symbol (codes "p") ∷ symbol f.name ∷ l)
      (pattern_words_lem f.first _ false _ (conditions_words f.others ++ arrow ∷ (actions_words f.actions ++ close' ∷ [])) (λ e. conditions-words f.others f.actions e))

  -- ---- names

  -- the names after a script
  abbrev names_in : Script Asked → List (List ℕ)
  names_in x = (asked_by x).1

  constant-names : (c : Constant) (ns more : List (List ℕ)) → grown (after_value ns c) more ≡ grown ns (constant_symbols c ++ more)
  constant-names (symbolic w) ns more = refl
  constant-names (numeric n) ns more = refl

  operand_names : (o : Operand) (d : Sofar) (negated : Bool) (more : List (List ℕ)) → grown (after_operand d negated o).names more ≡ grown d.names (operand_symbols o ++ more)
  operand_names (fixed c) d negated more = constant-names c d.names more
  operand_names (named w) d negated more = refl

  given-names : (o : Operand) (d : Sofar) (more : List (List ℕ)) → grown (after_given d o).names more ≡ grown d.names (operand_symbols o ++ more)
  given-names (fixed c) d more = constant-names c d.names more
  given-names (named w) d more = refl

  choice-names : (ws : List Chosen) (d : Sofar) (vs : List Value) (go : Sofar → List Value → Script Asked) (more : List (List ℕ)) → ((e : Sofar) (us : List Value) → names_in (go e us) ≡ grown e.names more) → names_in (choice_script cs rs d vs ws go) ≡ grown d.names (chosen_symbols ws ++ more)
  choice-names [] d vs go more h = h d vs
  choice-names (w ∷ ws) d vs go more h =
      choice-names ws _ _ go more h
      ∙ constant-names (constant_in w.word) d.names (chosen_symbols ws ++ more)
      ∙ ap (grown d.names) (sym (append_assoc (constant_symbols (constant_in w.word)) (chosen_symbols ws) more))

  test-names : (t : TestForm) (d : Sofar) (c : Condition) (f : ℕ) (go : Sofar → Condition → Script Asked) (more : List (List ℕ)) → ((e : Sofar) (b : Condition) → names_in (go e b) ≡ grown e.names more) → names_in (test_script cs rs d c f t go) ≡ grown d.names (test_symbols t ++ more)
  test-names (bare o) d c f go more h = h _ _ ∙ operand_names o _ c.negated more
  test-names (under p o i) d c f go more h = h _ _ ∙ operand_names o _ c.negated more
  test-names (one_of w ws) d c f go more h =
      choice-names ws _ _ _ more (λ e us. h e _)
      ∙ constant-names (constant_in w.word) d.names (chosen_symbols ws ++ more)
      ∙ ap (grown d.names) (sym (append_assoc (constant_symbols (constant_in w.word)) (chosen_symbols ws) more))

  pairs-names : (ps : List PairForm) (d : Sofar) (c : Condition) (go : Sofar → Script Asked) (more : List (List ℕ)) → ((e : Sofar) → names_in (go e) ≡ grown e.names more) → names_in (pairs_script cs rs d c ps go) ≡ grown d.names (pairs_symbols ps ++ more)
  pairs-names [] d c go more h = h _
  pairs-names (p ∷ ps) d c go more h =
      test-names p.test d c (field_named c.class d.names p.attribute) (λ e b. pairs_script cs rs e b ps go) (pairs_symbols ps ++ more) (λ e b. pairs-names ps e b go more h)
      ∙ ap (grown d.names) (sym (append_assoc (test_symbols p.test) (pairs_symbols ps) more))

  settings-names : (ss : List SettingForm) (d : Sofar) (a : Acting) (done : List Setting) (go : Sofar → Script Asked) (more : List (List ℕ)) → ((e : Sofar) → names_in (go e) ≡ grown e.names more) → names_in (settings_script cs rs d a done ss go) ≡ grown d.names (settings_symbols ss ++ more)
  settings-names [] d a done go more h = h _
  settings-names (s ∷ ss) d a done go more h =
      settings-names ss _ a _ go more h
      ∙ given-names s.value d (settings_symbols ss ++ more)
      ∙ ap (grown d.names) (sym (append_assoc (operand_symbols s.value) (settings_symbols ss) more))

  action_names : (a : ActionForm) (d : Sofar) (go : Sofar → Script Asked) (more : List (List ℕ)) → ((e : Sofar) → names_in (go e) ≡ grown e.names more) → names_in (action_script cs rs d a go) ≡ grown d.names (action_symbols a ++ more)
  action_names (making c ss) d go more h = settings-names ss _ _ _ go more h
  action_names (modifying k ss) d go more h = settings-names ss _ _ _ go more h
  action_names (removing k) d go more h = h _
  action_names halting d go more h = h _

  actions-names : (as' : List ActionForm) (d : Sofar) → names_in (actions_script cs rs d as') ≡ grown d.names (actions_symbols as')
  actions-names [] d = refl
  actions-names (a ∷ as') d = action_names a d _ (actions_symbols as') (λ e. actions-names as' e)

  conditions-names : (ps : List ConditionForm) (as' : List ActionForm) (d : Sofar) → names_in (conditions_script cs rs d ps as') ≡ grown d.names (conditions_symbols ps ++ actions_symbols as')
  conditions-names [] as' d = actions-names as' d
  conditions-names (positive p ∷ ps) as' d =
      pairs-names p.pairs _ _ _ (conditions_symbols ps ++ actions_symbols as') (λ e. conditions-names ps as' e)
      ∙ ap (grown d.names) (sym (append_assoc (pairs_symbols p.pairs) (conditions_symbols ps) (actions_symbols as')))
  conditions-names (negative p ∷ ps) as' d =
      pairs-names p.pairs _ _ _ (conditions_symbols ps ++ actions_symbols as') (λ e. conditions-names ps as' e)
      ∙ ap (grown d.names) (sym (append_assoc (pairs_symbols p.pairs) (conditions_symbols ps) (actions_symbols as')))

  production_names : (ns : List (List ℕ)) (f : ProductionForm) → names_in (production_script cs rs ns f) ≡ grown ns (production_symbols f)
  production_names ns f = pairs-names f.first.pairs _ _ _ (conditions_symbols f.others ++ actions_symbols f.actions) (λ e. conditions-names f.others f.actions e)

pub said : Said
said = record { words = λ cs rs ns f. production_words_lem cs rs ns f; names = λ cs rs ns f. production_names cs rs ns f }
