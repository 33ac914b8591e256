-- What may be left of a production in each state, and that the words lead through the states. Assumes nothing.
use Rattle.std.proofs.Common.{◌≡◌, ℕ, ◌<◌, Bool, true, false, not, List, [], ◌∷◌, ◌++◌, length, ℤ, pos, None, codes, Option, sym, refl, ap, ◌∙◌, subst}
use Rattle.std.proofs.lemmas.Bool.{cond_both, cond-false, false≢true}
use Rattle.words.specs.Kinds.{Kind, open', close', hat, minus, arrow, open_choice, close_choice, test, number, variable, symbol, illegal}
use Rattle.words.specs.Words.{Lexeme}
use Rattle.words.specs.declared.token.Predicate.{Predicate}
use Rattle.values.specs.declared.value.Value.{Value}
use Rattle.rules.specs.Attributes.{Declared}
use Rattle.rules.specs.Fitness.{condition_class}
use Rattle.rules.specs.Rules.{plain, compared, choice, Condition, Setting, removes, halts, Rule}
use Rattle.languages.specs.declared.refusal.Cause.{Cause}
use Rattle.languages.specs.declared.refusal.Cause.TheVariants.{IllegalWord}
use Rattle.languages.specs.Refusals.{Fault}
use Rattle.languages.specs.Senses.{sense}
use Rattle.languages.specs.Scripts.{Judged, Script, then', asks, judge, fine, or_fault}
use Rattle.languages.specs.Naming.{symbolic, numeric, class_named, field_named, value_of, after_value, undeclared, lacking, value_fault}
use Rattle.languages.specs.Languages.{Takes, TakesNone, Broken, OneAnswer}
use Rattle.languages.specs.Machines.{onward, whole, fails, unless, refuse, on_close, on_minus, on_arrow, on_open_choice, on_close_choice, on_variable, on_symbol, taken, stopped, run, place_of}
use Rattle.languages.proofs.Following.{legal_symbol, View, ends, goes, Next, leads, run-takes, stopped_none, run-broken, takes_fewer, one_answer}
use Rattle.languages.proofs.Kindwise.{by_refuse, by_open, by_close, by_hat, by_minus, by_arrow, by_open_choice, by_close_choice, by_test, by_number, by_variable, by_symbol, by_certain}
use Rattle.productions.specs.Forms.{Operand, fixed, named, ordering, admits, choosable, constant_in, Chosen, TestForm, bare, under, one_of, PairForm, Pattern, ConditionForm, positive, negative, SettingForm, ActionForm, making, modifying, removing, halting, ProductionForm}
use Rattle.productions.specs.Sofar.{Sofar, with_names, with_condition, with_action, one_test, one_constant, one_setting, with_test, rule_read, negated_fault, condition_fault, action_fault, test_fault, chosen_fault, setting_fault, name_fault, ordinal, ordinal_fault, operand_word, term_for, operand_fault, after_operand, given_fault, after_given, binding, Acting, on_make, on_modify, acting_class, action_with}
use Rattle.productions.specs.Spelling.{Asked, value_script, setting_script, settings_script, close_script, make_script, modify_script, remove_script, action_script, actions_script, chosen_script, choice_script, operand_script, test_script, pair_script, pairs_script, pattern_script, conditions_script, begun, body_script, name_script, production_script}
use Rattle.productions.specs.Machine.{State, at_opening, at_head, at_name, at_first, at_conditions, at_negated, at_class, at_pairs, at_attribute, at_test, at_choice, at_operand, at_choices, at_actions, at_action, at_make, at_modify, at_remove, at_closing, at_settings, at_setting, at_value, Move, unexpected, on_chosen, on_operand, head_word, action_word, bare_word, test_word, compared_word, compared_symbol, chosen_word, value_word, attribute_word, setting_word, modify_word, remove_word, name_word, class_word, make_word, turned}

-- what may be left of a production
abbrev pub Rest : State → Type 0
Rest (at_opening ns) = ProductionForm
Rest (at_head ns) = ProductionForm
Rest (at_name ns) = ProductionForm
Rest (at_first d) = Pattern × List ConditionForm × List ActionForm
Rest (at_conditions d) = List ConditionForm × List ActionForm
Rest (at_negated d) = Pattern × List ConditionForm × List ActionForm
Rest (at_class d b) = Pattern × List ConditionForm × List ActionForm
Rest (at_pairs d c) = List PairForm × List ConditionForm × List ActionForm
Rest (at_attribute d c) = PairForm × List PairForm × List ConditionForm × List ActionForm
Rest (at_test d c f) = TestForm × List PairForm × List ConditionForm × List ActionForm
Rest (at_choice d c f) = Chosen × List Chosen × List PairForm × List ConditionForm × List ActionForm
Rest (at_operand d c f p) = ((o : Operand) × (admits p o ≡ true)) × List PairForm × List ConditionForm × List ActionForm
Rest (at_choices d c f vs) = List Chosen × List PairForm × List ConditionForm × List ActionForm
Rest (at_actions d) = List ActionForm
Rest (at_action d) = ActionForm × List ActionForm
Rest (at_make d) = List ℕ × List SettingForm × List ActionForm
Rest (at_modify d) = ℤ × List SettingForm × List ActionForm
Rest (at_remove d) = ℤ × List ActionForm
Rest (at_closing d) = List ActionForm
Rest (at_settings d a done) = List SettingForm × List ActionForm
Rest (at_setting d a done) = SettingForm × List SettingForm × List ActionForm
Rest (at_value d a done f) = Operand × List SettingForm × List ActionForm

-- a production that is as short as can be
shortest : ProductionForm
shortest = record { name = []; first = record { class = []; pairs = [] }; others = []; actions = [] }

some : (s : State) → Rest s
some (at_opening ns) = shortest
some (at_head ns) = shortest
some (at_name ns) = shortest
some (at_first d) = (record { class = []; pairs = [] }, [], [])
some (at_conditions d) = ([], [])
some (at_negated d) = (record { class = []; pairs = [] }, [], [])
some (at_class d b) = (record { class = []; pairs = [] }, [], [])
some (at_pairs d c) = ([], [], [])
some (at_attribute d c) = (record { attribute = []; test = bare (named []) }, [], [], [])
some (at_test d c f) = (bare (named []), [], [], [])
some (at_choice d c f) = (record { word = minus; plain = refl }, [], [], [], [])
some (at_operand d c f p) = ((named [], refl), [], [], [])
some (at_choices d c f vs) = ([], [], [], [])
some (at_actions d) = []
some (at_action d) = (halting, [])
some (at_make d) = ([], [], [])
some (at_modify d) = (pos 1, [], [])
some (at_remove d) = (pos 1, [])
some (at_closing d) = []
some (at_settings d a done) = ([], [])
some (at_setting d a done) = (record { attribute = []; value = named [] }, [], [])
some (at_value d a done f) = (named [], [], [])

-- ---- words of a choice, and operands

sense-twice : (k : Kind) → sense (sense k) ≡ sense k
sense-twice open' = refl
sense-twice close' = refl
sense-twice hat = refl
sense-twice minus = refl
sense-twice arrow = refl
sense-twice open_choice = refl
sense-twice close_choice = refl
sense-twice (test p) = refl
sense-twice (number n w) = refl
sense-twice (variable w) = refl
sense-twice (symbol w) = refl
sense-twice (illegal w) = refl

-- a number counts by its value in a choice too
constant-sense : (k : Kind) → constant_in (sense k) ≡ constant_in k
constant-sense open' = refl
constant-sense close' = refl
constant-sense hat = refl
constant-sense minus = refl
constant-sense arrow = refl
constant-sense open_choice = refl
constant-sense close_choice = refl
constant-sense (test p) = refl
constant-sense (number n w) = refl
constant-sense (variable w) = refl
constant-sense (symbol w) = refl
constant-sense (illegal w) = refl

-- a word of a choice is taken as one
on_chosen_lem : (x f : Kind → Move) (k : Kind) → choosable k ≡ true → on_chosen x f (sense k) ≡ x (sense k)
on_chosen_lem x f open' e = absurd (false≢true e)
on_chosen_lem x f close' e = absurd (false≢true e)
on_chosen_lem x f hat e = absurd (false≢true e)
on_chosen_lem x f minus e = refl
on_chosen_lem x f arrow e = refl
on_chosen_lem x f open_choice e = refl
on_chosen_lem x f close_choice e = absurd (false≢true e)
on_chosen_lem x f (test p) e = refl
on_chosen_lem x f (number n w) e = refl
on_chosen_lem x f (variable w) e = refl
on_chosen_lem x f (symbol w) e = refl
on_chosen_lem x f (illegal w) e = absurd (false≢true e)

-- and not as the end of the choice
on_close-chosen : (y : Move) (x f : Kind → Move) (k : Kind) → choosable k ≡ true → on_close_choice y (on_chosen x f) (sense k) ≡ x (sense k)
on_close-chosen y x f open' e = absurd (false≢true e)
on_close-chosen y x f close' e = absurd (false≢true e)
on_close-chosen y x f hat e = absurd (false≢true e)
on_close-chosen y x f minus e = refl
on_close-chosen y x f arrow e = refl
on_close-chosen y x f open_choice e = refl
on_close-chosen y x f close_choice e = absurd (false≢true e)
on_close-chosen y x f (test p) e = refl
on_close-chosen y x f (number n w) e = refl
on_close-chosen y x f (variable w) e = refl
on_close-chosen y x f (symbol w) e = refl
on_close-chosen y x f (illegal w) e = absurd (false≢true e)

-- a fact of each word of a choice
by_chosen : (P : Kind → Move → Type 0) (x f : Kind → Move) → ((k : Kind) → choosable k ≡ true → P (sense k) (x (sense k))) → ((k : Kind) → P (sense k) (f (sense k))) → (k : Kind) → P (sense k) (on_chosen x f (sense k))
by_chosen P x f h g open' = g open'
by_chosen P x f h g close' = g close'
by_chosen P x f h g hat = g hat
by_chosen P x f h g minus = h minus refl
by_chosen P x f h g arrow = h arrow refl
by_chosen P x f h g open_choice = h open_choice refl
by_chosen P x f h g close_choice = g close_choice
by_chosen P x f h g (test p) = h (test p) refl
by_chosen P x f h g (number n w) = h (number n w) refl
by_chosen P x f h g (variable w) = h (variable w) refl
by_chosen P x f h g (symbol w) = h (symbol w) refl
by_chosen P x f h g (illegal w) = g (illegal w)

-- a fact of each operand
by_operand : (P : Kind → Move → Type 0) (x : Operand → Move) (f : Kind → Move) → ((o : Operand) → P (operand_word o) (x o)) → ((k : Kind) → P (sense k) (f (sense k))) → (k : Kind) → P (sense k) (on_operand x f (sense k))
by_operand P x f h g =
    by_number P (λ n. x (fixed (numeric n))) (on_symbol (λ w. x (fixed (symbolic w))) (on_variable (λ w. x (named w)) f)) (λ n. h (fixed (numeric n)))
    (by_symbol P (λ w. x (fixed (symbolic w))) (on_variable (λ w. x (named w)) f) (λ w. h (fixed (symbolic w)))
    (by_variable P (λ w. x (named w)) f (λ w. h (named w)) g))

-- an operand is taken as one
on_operand_lem : (x : Operand → Move) (f : Kind → Move) (o : Operand) → on_operand x f (operand_word o) ≡ x o
on_operand_lem x f (fixed (symbolic w)) = refl
on_operand_lem x f (fixed (numeric n)) = refl
on_operand_lem x f (named w) = refl

operand_sense : (o : Operand) → sense (operand_word o) ≡ operand_word o
operand_sense (fixed (symbolic w)) = refl
operand_sense (fixed (numeric n)) = refl
operand_sense (named w) = refl

module _ (cs : List Declared) (rs : List Rule) where
  -- its words
  abbrev pub left : (s : State) → Rest s → Script Asked
  left (at_opening ns) r = production_script cs rs ns r
  left (at_head ns) r = then' (fine (symbol (codes "p"))) (name_script cs rs ns r)
  left (at_name ns) r = name_script cs rs ns r
  left (at_first d) r = body_script cs rs d r.0 r.1 r.2
  left (at_conditions d) r = conditions_script cs rs d r.0 r.1
  left (at_negated d) r = then' (fine open') (pattern_script cs rs d true r.0 (λ e. conditions_script cs rs e r.1 r.2))
  left (at_class d b) r = pattern_script cs rs d b r.0 (λ e. conditions_script cs rs e r.1 r.2)
  left (at_pairs d c) r = pairs_script cs rs d c r.0 (λ e. conditions_script cs rs e r.1 r.2)
  left (at_attribute d c) r = pair_script cs rs d c r.0 (λ e b. pairs_script cs rs e b r.1 (λ i. conditions_script cs rs i r.2 r.3))
  left (at_test d c f) r = test_script cs rs d c f r.0 (λ e b. pairs_script cs rs e b r.1 (λ i. conditions_script cs rs i r.2 r.3))
  left (at_choice d c f) r =
      chosen_script cs rs d [] r.0
      (λ e us. choice_script cs rs e us r.1 (λ i vs. pairs_script cs rs i (with_test c f (choice vs)) r.2 (λ j. conditions_script cs rs j r.3 r.4)))
  left (at_operand d c f p) r = operand_script cs rs d c f p r.0.0 (λ e b. pairs_script cs rs e b r.1 (λ i. conditions_script cs rs i r.2 r.3))
  left (at_choices d c f vs) r = choice_script cs rs d vs r.0 (λ i us. pairs_script cs rs i (with_test c f (choice us)) r.1 (λ j. conditions_script cs rs j r.2 r.3))
  left (at_actions d) r = actions_script cs rs d r
  left (at_action d) r = action_script cs rs d r.0 (λ e. actions_script cs rs e r.1)
  left (at_make d) r = make_script cs rs d r.0 r.1 (λ e. actions_script cs rs e r.2)
  left (at_modify d) r = modify_script cs rs d r.0 r.1 (λ e. actions_script cs rs e r.2)
  left (at_remove d) r = remove_script cs rs d r.0 (λ e. actions_script cs rs e r.1)
  left (at_closing d) r = close_script cs rs d (λ e. actions_script cs rs e r)
  left (at_settings d a done) r = settings_script cs rs d a done r.0 (λ e. actions_script cs rs e r.1)
  left (at_setting d a done) r = setting_script cs rs d (acting_class a) done r.0 (λ e more. settings_script cs rs e a more r.1 (λ i. actions_script cs rs i r.2))
  left (at_value d a done f) r = value_script cs rs d done f r.0 (λ e more. settings_script cs rs e a more r.1 (λ i. actions_script cs rs i r.2))

  -- ---- the first word of what is left

  abbrev Seen : (s : State) → Rest s → Type 0
  Seen s r = View (turned cs rs) Rest left s (left s r)

  to : (s : State) (j : Judged) (t : State) (r : Rest t) → sense j.word ≡ j.word → turned cs rs s j.word ≡ unless j.fault (onward t) → View (turned cs rs) Rest left s (then' j (left t r))
  to = goes (turned cs rs) Rest left

  end : (s : State) (j : Judged) (e : Asked) → sense j.word ≡ j.word → turned cs rs s j.word ≡ unless j.fault (whole e) → View (turned cs rs) Rest left s (then' j (asks e))
  end = ends (turned cs rs) Rest left

  see_conditions : (d : Sofar) (ps : List ConditionForm) (as' : List ActionForm) → Seen (at_conditions d) (ps, as')
  see_conditions d [] as' = to (at_conditions d) (fine arrow) (at_actions d) as' refl refl
  see_conditions d (positive p ∷ ps) as' = to (at_conditions d) (judge open' (condition_fault d)) (at_class d false) (p, ps, as') refl refl
  see_conditions d (negative p ∷ ps) as' = to (at_conditions d) (judge minus (negated_fault d)) (at_negated d) (p, ps, as') refl refl

  see_pairs : (d : Sofar) (c : Condition) (ps : List PairForm) (os : List ConditionForm) (as' : List ActionForm) → Seen (at_pairs d c) (ps, os, as')
  see_pairs d c [] os as' = to (at_pairs d c) (fine close') (at_conditions (with_condition d c)) (os, as') refl refl
  see_pairs d c (p ∷ ps) os as' = to (at_pairs d c) (fine hat) (at_attribute d c) (p, ps, os, as') refl refl

  -- a word of a choice does the same by its sense
  chosen_by_sense : (d : Sofar) (c : Condition) (f : ℕ) (vs : List Value) (k : Kind) → chosen_word d c f vs (sense k) ≡ chosen_word d c f vs k
  chosen_by_sense d c f vs k =
      ap (λ z. unless (or_fault (value_fault d.names z) (chosen_fault d)) (onward (at_choices (one_constant (with_names d (after_value d.names z))) c f (vs ++ value_of d.names z ∷ [])))) (constant-sense k)

  see_choices : (d : Sofar) (c : Condition) (f : ℕ) (vs : List Value) (ws : List Chosen) (ps : List PairForm) (os : List ConditionForm) (as' : List ActionForm) → Seen (at_choices d c f vs) (ws, ps, os, as')
  see_choices d c f vs [] ps os as' = to (at_choices d c f vs) (fine close_choice) (at_pairs d (with_test c f (choice vs))) (ps, os, as') refl refl
  see_choices d c f vs (w ∷ ws) ps os as' =
      to (at_choices d c f vs) (judge (sense w.word) (or_fault (value_fault d.names (constant_in w.word)) (chosen_fault d)))
      (at_choices (one_constant (with_names d (after_value d.names (constant_in w.word)))) c f (vs ++ value_of d.names (constant_in w.word) ∷ [])) (ws, ps, os, as')
      (sense-twice w.word)
      (on_close-chosen (onward (at_pairs d (with_test c f (choice vs)))) (chosen_word d c f vs) refuse w.word w.plain ∙ chosen_by_sense d c f vs w.word)

  see_choice : (d : Sofar) (c : Condition) (f : ℕ) (w : Chosen) (ws : List Chosen) (ps : List PairForm) (os : List ConditionForm) (as' : List ActionForm) → Seen (at_choice d c f) (w, ws, ps, os, as')
  see_choice d c f w ws ps os as' =
      to (at_choice d c f) (judge (sense w.word) (or_fault (value_fault d.names (constant_in w.word)) (chosen_fault d)))
      (at_choices (one_constant (with_names d (after_value d.names (constant_in w.word)))) c f ([] ++ value_of d.names (constant_in w.word) ∷ [])) (ws, ps, os, as')
      (sense-twice w.word)
      (on_chosen_lem (chosen_word d c f []) refuse w.word w.plain ∙ chosen_by_sense d c f [] w.word)

  see_test : (d : Sofar) (c : Condition) (f : ℕ) (t : TestForm) (ps : List PairForm) (os : List ConditionForm) (as' : List ActionForm) → Seen (at_test d c f) (t, ps, os, as')
  see_test d c f (bare o) ps os as' =
      to (at_test d c f) (judge (operand_word o) (or_fault (operand_fault d true o) (test_fault d))) (at_pairs (after_operand (one_test d) c.negated o) (with_test c f (plain (term_for d o)))) (ps, os, as')
      (operand_sense o) (on_operand_lem (bare_word d c f) (test_word d c f) o)
  see_test d c f (under p o h) ps os as' = to (at_test d c f) (judge (test p) (test_fault d)) (at_operand (one_test d) c f p) ((o, h), ps, os, as') refl refl
  see_test d c f (one_of w ws) ps os as' = to (at_test d c f) (judge open_choice (test_fault d)) (at_choice (one_test d) c f) (w, ws, ps, os, as') refl refl

  see_operand : (d : Sofar) (c : Condition) (f : ℕ) (p : Predicate) (o : Operand) (h : admits p o ≡ true) (ps : List PairForm) (os : List ConditionForm) (as' : List ActionForm) → Seen (at_operand d c f p) ((o, h), ps, os, as')
  see_operand d c f p (fixed (symbolic w)) h ps os as' =
      to (at_operand d c f p) (judge (symbol w) (operand_fault d (binding p) (fixed (symbolic w)))) (at_pairs (after_operand d c.negated (fixed (symbolic w))) (with_test c f (compared p (term_for d (fixed (symbolic w)))))) (ps, os, as')
      refl (cond-false (ordering p) unexpected (compared_word d c f p (fixed (symbolic w))) (unordered (ordering p) h))
    where
      unordered : (b : Bool) → not b ≡ true → b ≡ false
      unordered false e = refl
      unordered true e = absurd (false≢true e)
  see_operand d c f p (fixed (numeric n)) h ps os as' =
      to (at_operand d c f p) (judge (number n []) (operand_fault d (binding p) (fixed (numeric n)))) (at_pairs (after_operand d c.negated (fixed (numeric n))) (with_test c f (compared p (term_for d (fixed (numeric n)))))) (ps, os, as') refl refl
  see_operand d c f p (named w) h ps os as' =
      to (at_operand d c f p) (judge (variable w) (operand_fault d (binding p) (named w))) (at_pairs (after_operand d c.negated (named w)) (with_test c f (compared p (term_for d (named w))))) (ps, os, as') refl refl

  see_actions : (d : Sofar) (as' : List ActionForm) → Seen (at_actions d) as'
  see_actions d [] = end (at_actions d) (fine close') (rule_read d, d.names) refl refl
  see_actions d (a ∷ as') = to (at_actions d) (judge open' (action_fault d)) (at_action d) (a, as') refl refl

  see_action : (d : Sofar) (a : ActionForm) (as' : List ActionForm) → Seen (at_action d) (a, as')
  see_action d (making c ss) as' = to (at_action d) (fine (symbol (codes "make"))) (at_make d) (c, ss, as') refl refl
  see_action d (modifying k ss) as' = to (at_action d) (fine (symbol (codes "modify"))) (at_modify d) (k, ss, as') refl refl
  see_action d (removing k) as' = to (at_action d) (fine (symbol (codes "remove"))) (at_remove d) (k, as') refl refl
  see_action d halting as' = to (at_action d) (fine (symbol (codes "halt"))) (at_closing (with_action d halts)) as' refl refl

  see_settings : (d : Sofar) (a : Acting) (done : List Setting) (ss : List SettingForm) (as' : List ActionForm) → Seen (at_settings d a done) (ss, as')
  see_settings d a done [] as' = to (at_settings d a done) (fine close') (at_actions (with_action d (action_with a done))) as' refl refl
  see_settings d a done (s ∷ ss) as' = to (at_settings d a done) (fine hat) (at_setting d a done) (s, ss, as') refl refl

  see : (s : State) (r : Rest s) → Seen s r
  see (at_opening ns) r = to (at_opening ns) (fine open') (at_head ns) r refl refl
  see (at_head ns) r = to (at_head ns) (fine (symbol (codes "p"))) (at_name ns) r refl refl
  see (at_name ns) r = to (at_name ns) (judge (symbol r.name) (name_fault rs ns r.name)) (at_first (begun rs ns r.name)) (r.first, r.others, r.actions) refl refl
  see (at_first d) r = to (at_first d) (fine open') (at_class d false) r refl refl
  see (at_conditions d) r = see_conditions d r.0 r.1
  see (at_negated d) r = to (at_negated d) (fine open') (at_class d true) r refl refl
  see (at_class d b) r =
      to (at_class d b) (judge (symbol r.0.class) (or_fault (undeclared cs d.names r.0.class) (test_fault d)))
      (at_pairs (one_test d) (record { negated = b; class = class_named cs d.names r.0.class; tests = [] })) (r.0.pairs, r.1, r.2) refl refl
  see (at_pairs d c) r = see_pairs d c r.0 r.1 r.2
  see (at_attribute d c) r =
      to (at_attribute d c) (judge (symbol r.0.attribute) (lacking c.class d.names r.0.attribute)) (at_test d c (field_named c.class d.names r.0.attribute)) (r.0.test, r.1, r.2, r.3) refl refl
  see (at_test d c f) r = see_test d c f r.0 r.1 r.2 r.3
  see (at_choice d c f) r = see_choice d c f r.0 r.1 r.2 r.3 r.4
  see (at_operand d c f p) r = see_operand d c f p r.0.0 r.0.1 r.1 r.2 r.3
  see (at_choices d c f vs) r = see_choices d c f vs r.0 r.1 r.2 r.3
  see (at_actions d) r = see_actions d r
  see (at_action d) r = see_action d r.0 r.1
  see (at_make d) r = to (at_make d) (judge (symbol r.0) (undeclared cs d.names r.0)) (at_settings d (on_make (class_named cs d.names r.0)) []) (r.1, r.2) refl refl
  see (at_modify d) r =
      to (at_modify d) (judge (number r.0 []) (ordinal_fault d r.0)) (at_settings d (on_modify (ordinal r.0) (condition_class d.conditions (ordinal r.0))) []) (r.1, r.2) refl refl
  see (at_remove d) r = to (at_remove d) (judge (number r.0 []) (ordinal_fault d r.0)) (at_closing (with_action d (removes (ordinal r.0)))) r.1 refl refl
  see (at_closing d) r = to (at_closing d) (fine close') (at_actions d) r refl refl
  see (at_settings d a done) r = see_settings d a done r.0 r.1
  see (at_setting d a done) r =
      to (at_setting d a done) (judge (symbol r.0.attribute) (lacking (acting_class a) d.names r.0.attribute)) (at_value d a done (field_named (acting_class a) d.names r.0.attribute)) (r.0.value, r.1, r.2) refl refl
  see (at_value d a done f) r =
      to (at_value d a done f) (judge (operand_word r.0) (or_fault (given_fault d r.0) (setting_fault d)))
      (at_settings (one_setting (after_given d r.0)) a (done ++ record { field = f; value = term_for d r.0 } ∷ [])) (r.1, r.2)
      (operand_sense r.0) (on_operand_lem (value_word d a done f) refuse r.0)

  -- ---- what each word does

  abbrev Does : State → Kind → Move → Type 0
  Does s = Next (turned cs rs) Rest left s

  lead : (s t : State) (k : Kind) (f : Option Fault) → ((r : Rest t) → (q : Rest s) × (left s q ≡ then' (judge k f) (left t r))) → Does s k (unless f (onward t))
  lead = leads (turned cs rs) Rest left some

  others : (s : State) (k : Kind) → Does s (sense k) (refuse (sense k))
  others s = by_refuse (Does s) (λ w. (w, refl)) (λ k h. h)

  does_action : (d : Sofar) (w : List ℕ) → Does (at_action d) (symbol w) (action_word d w)
  does_action d w =
      by_certain (Does (at_action d)) (codes "make") (onward (at_make d)) _ w (lead (at_action d) (at_make d) (symbol (codes "make")) None (λ r. ((making r.0 r.1, r.2), refl)))
      (by_certain (Does (at_action d)) (codes "modify") (onward (at_modify d)) _ w (lead (at_action d) (at_modify d) (symbol (codes "modify")) None (λ r. ((modifying r.0 r.1, r.2), refl)))
      (by_certain (Does (at_action d)) (codes "remove") (onward (at_remove d)) _ w (lead (at_action d) (at_remove d) (symbol (codes "remove")) None (λ r. ((removing r.0, r.1), refl)))
      (by_certain (Does (at_action d)) (codes "halt") (onward (at_closing (with_action d halts))) unexpected w (lead (at_action d) (at_closing (with_action d halts)) (symbol (codes "halt")) None (λ r. ((halting, r), refl)))
      (legal_symbol w))))

  does_test : (d : Sofar) (c : Condition) (f : ℕ) (k : Kind) → Does (at_test d c f) (sense k) (test_word d c f (sense k))
  does_test d c f =
      by_test (Does (at_test d c f)) (λ p. unless (test_fault d) (onward (at_operand (one_test d) c f p))) (on_open_choice (unless (test_fault d) (onward (at_choice (one_test d) c f))) refuse)
      (λ p. lead (at_test d c f) (at_operand (one_test d) c f p) (test p) (test_fault d) (λ r. ((under p r.0.0 r.0.1, r.1, r.2, r.3), refl)))
      (by_open_choice (Does (at_test d c f)) (unless (test_fault d) (onward (at_choice (one_test d) c f))) refuse
      (lead (at_test d c f) (at_choice (one_test d) c f) open_choice (test_fault d) (λ r. ((one_of r.0 r.1, r.2, r.3, r.4), refl)))
      (others (at_test d c f)))

  does_bare : (d : Sofar) (c : Condition) (f : ℕ) (o : Operand) → Does (at_test d c f) (operand_word o) (bare_word d c f o)
  does_bare d c f o =
      lead (at_test d c f) (at_pairs (after_operand (one_test d) c.negated o) (with_test c f (plain (term_for d o)))) (operand_word o) (or_fault (operand_fault d true o) (test_fault d)) (λ r. ((bare o, r.0, r.1, r.2), refl))

  does_compared : (d : Sofar) (c : Condition) (f : ℕ) (p : Predicate) (o : Operand) → admits p o ≡ true → Does (at_operand d c f p) (operand_word o) (compared_word d c f p o)
  does_compared d c f p o h =
      lead (at_operand d c f p) (at_pairs (after_operand d c.negated o) (with_test c f (compared p (term_for d o)))) (operand_word o) (operand_fault d (binding p) o) (λ r. (((o, h), r.0, r.1, r.2), refl))

  does_symbol : (d : Sofar) (c : Condition) (f : ℕ) (p : Predicate) (w : List ℕ) → Does (at_operand d c f p) (symbol w) (compared_symbol d c f p w)
  does_symbol d c f p w =
      cond_both (ordering p) unexpected (compared_word d c f p (fixed (symbolic w))) (Does (at_operand d c f p) (symbol w))
      (λ e. legal_symbol w)
      (λ e. does_compared d c f p (fixed (symbolic w)) (ap not e))

  -- a word of a choice leads on, by its sense
  does_chosen : (s : State) (d : Sofar) (c : Condition) (f : ℕ) (vs : List Value) (k : Kind) → choosable k ≡ true →
      ((r : Rest (at_choices (one_constant (with_names d (after_value d.names (constant_in k)))) c f (vs ++ value_of d.names (constant_in k) ∷ []))) → (q : Rest s) × (left s q ≡ then' (judge (sense k) (or_fault (value_fault d.names (constant_in k)) (chosen_fault d))) (left (at_choices (one_constant (with_names d (after_value d.names (constant_in k)))) c f (vs ++ value_of d.names (constant_in k) ∷ [])) r))) →
      Does s (sense k) (chosen_word d c f vs (sense k))
  does_chosen s d c f vs k h g =
      subst (Does s (sense k)) (sym (chosen_by_sense d c f vs k))
      (lead s (at_choices (one_constant (with_names d (after_value d.names (constant_in k)))) c f (vs ++ value_of d.names (constant_in k) ∷ [])) (sense k) (or_fault (value_fault d.names (constant_in k)) (chosen_fault d)) g)

  does_value : (d : Sofar) (a : Acting) (done : List Setting) (f : ℕ) (v : Operand) → Does (at_value d a done f) (operand_word v) (value_word d a done f v)
  does_value d a done f v =
      lead (at_value d a done f) (at_settings (one_setting (after_given d v)) a (done ++ record { field = f; value = term_for d v } ∷ [])) (operand_word v) (or_fault (given_fault d v) (setting_fault d)) (λ r. ((v, r.0, r.1), refl))

  does : (s : State) (k : Kind) → Does s (sense k) (turned cs rs s (sense k))
  does (at_opening ns) = by_open (Does (at_opening ns)) (onward (at_head ns)) refuse (lead (at_opening ns) (at_head ns) open' None (λ r. (r, refl))) (others (at_opening ns))
  does (at_head ns) =
      by_symbol (Does (at_head ns)) (head_word ns) refuse
      (λ w. by_certain (Does (at_head ns)) (codes "p") (onward (at_name ns)) unexpected w (lead (at_head ns) (at_name ns) (symbol (codes "p")) None (λ r. (r, refl))) (legal_symbol w))
      (others (at_head ns))
  does (at_name ns) =
      by_symbol (Does (at_name ns)) (name_word rs ns) refuse
      (λ w. lead (at_name ns) (at_first (begun rs ns w)) (symbol w) (name_fault rs ns w) (λ r. (record { name = w; first = r.0; others = r.1; actions = r.2 }, refl)))
      (others (at_name ns))
  does (at_first d) = by_open (Does (at_first d)) (onward (at_class d false)) refuse (lead (at_first d) (at_class d false) open' None (λ r. (r, refl))) (others (at_first d))
  does (at_conditions d) =
      by_open (Does (at_conditions d)) (unless (condition_fault d) (onward (at_class d false))) (on_minus (unless (negated_fault d) (onward (at_negated d))) (on_arrow (onward (at_actions d)) refuse))
      (lead (at_conditions d) (at_class d false) open' (condition_fault d) (λ r. ((positive r.0 ∷ r.1, r.2), refl)))
      (by_minus (Does (at_conditions d)) (unless (negated_fault d) (onward (at_negated d))) (on_arrow (onward (at_actions d)) refuse)
      (lead (at_conditions d) (at_negated d) minus (negated_fault d) (λ r. ((negative r.0 ∷ r.1, r.2), refl)))
      (by_arrow (Does (at_conditions d)) (onward (at_actions d)) refuse (lead (at_conditions d) (at_actions d) arrow None (λ r. (([], r), refl))) (others (at_conditions d))))
  does (at_negated d) = by_open (Does (at_negated d)) (onward (at_class d true)) refuse (lead (at_negated d) (at_class d true) open' None (λ r. (r, refl))) (others (at_negated d))
  does (at_class d b) =
      by_symbol (Does (at_class d b)) (class_word cs d b) refuse
      (λ w.
      lead (at_class d b) (at_pairs (one_test d) (record { negated = b; class = class_named cs d.names w; tests = [] })) (symbol w) (or_fault (undeclared cs d.names w) (test_fault d))
      (λ r. ((record { class = w; pairs = r.0 }, r.1, r.2), refl)))
      (others (at_class d b))
  does (at_pairs d c) =
      by_hat (Does (at_pairs d c)) (onward (at_attribute d c)) (on_close (onward (at_conditions (with_condition d c))) refuse)
      (lead (at_pairs d c) (at_attribute d c) hat None (λ r. ((r.0 ∷ r.1, r.2, r.3), refl)))
      (by_close (Does (at_pairs d c)) (onward (at_conditions (with_condition d c))) refuse
      (lead (at_pairs d c) (at_conditions (with_condition d c)) close' None (λ r. (([], r.0, r.1), refl)))
      (others (at_pairs d c)))
  does (at_attribute d c) =
      by_symbol (Does (at_attribute d c)) (attribute_word d c) refuse
      (λ w. lead (at_attribute d c) (at_test d c (field_named c.class d.names w)) (symbol w) (lacking c.class d.names w) (λ r. ((record { attribute = w; test = r.0 }, r.1, r.2, r.3), refl)))
      (others (at_attribute d c))
  does (at_test d c f) = by_operand (Does (at_test d c f)) (bare_word d c f) (test_word d c f) (does_bare d c f) (does_test d c f)
  does (at_choice d c f) =
      by_chosen (Does (at_choice d c f)) (chosen_word d c f []) refuse
      (λ k h. does_chosen (at_choice d c f) d c f [] k h (λ r. ((record { word = k; plain = h }, r.0, r.1, r.2, r.3), refl)))
      (others (at_choice d c f))
  does (at_operand d c f p) =
      by_number (Does (at_operand d c f p)) (λ n. compared_word d c f p (fixed (numeric n))) (on_symbol (compared_symbol d c f p) (on_variable (λ w. compared_word d c f p (named w)) refuse))
      (λ n. does_compared d c f p (fixed (numeric n)) refl)
      (by_symbol (Does (at_operand d c f p)) (compared_symbol d c f p) (on_variable (λ w. compared_word d c f p (named w)) refuse)
      (does_symbol d c f p)
      (by_variable (Does (at_operand d c f p)) (λ w. compared_word d c f p (named w)) refuse (λ w. does_compared d c f p (named w) refl) (others (at_operand d c f p))))
  does (at_choices d c f vs) =
      by_close_choice (Does (at_choices d c f vs)) (onward (at_pairs d (with_test c f (choice vs)))) (on_chosen (chosen_word d c f vs) refuse)
      (lead (at_choices d c f vs) (at_pairs d (with_test c f (choice vs))) close_choice None (λ r. (([], r.0, r.1, r.2), refl)))
      (by_chosen (Does (at_choices d c f vs)) (chosen_word d c f vs) refuse
      (λ k h. does_chosen (at_choices d c f vs) d c f vs k h (λ r. ((record { word = k; plain = h } ∷ r.0, r.1, r.2, r.3), refl)))
      (others (at_choices d c f vs)))
  does (at_actions d) =
      by_open (Does (at_actions d)) (unless (action_fault d) (onward (at_action d))) (on_close (whole (rule_read d, d.names)) refuse)
      (lead (at_actions d) (at_action d) open' (action_fault d) (λ r. (r.0 ∷ r.1, refl)))
      (by_close (Does (at_actions d)) (whole (rule_read d, d.names)) refuse ([], refl) (others (at_actions d)))
  does (at_action d) = by_symbol (Does (at_action d)) (action_word d) refuse (does_action d) (others (at_action d))
  does (at_make d) =
      by_symbol (Does (at_make d)) (make_word cs d) refuse
      (λ w. lead (at_make d) (at_settings d (on_make (class_named cs d.names w)) []) (symbol w) (undeclared cs d.names w) (λ r. ((w, r.0, r.1), refl)))
      (others (at_make d))
  does (at_modify d) =
      by_number (Does (at_modify d)) (modify_word d) refuse
      (λ k. lead (at_modify d) (at_settings d (on_modify (ordinal k) (condition_class d.conditions (ordinal k))) []) (number k []) (ordinal_fault d k) (λ r. ((k, r.0, r.1), refl)))
      (others (at_modify d))
  does (at_remove d) =
      by_number (Does (at_remove d)) (remove_word d) refuse
      (λ k. lead (at_remove d) (at_closing (with_action d (removes (ordinal k)))) (number k []) (ordinal_fault d k) (λ r. ((k, r), refl)))
      (others (at_remove d))
  does (at_closing d) = by_close (Does (at_closing d)) (onward (at_actions d)) refuse (lead (at_closing d) (at_actions d) close' None (λ r. (r, refl))) (others (at_closing d))
  does (at_settings d a done) =
      by_hat (Does (at_settings d a done)) (onward (at_setting d a done)) (on_close (onward (at_actions (with_action d (action_with a done)))) refuse)
      (lead (at_settings d a done) (at_setting d a done) hat None (λ r. ((r.0 ∷ r.1, r.2), refl)))
      (by_close (Does (at_settings d a done)) (onward (at_actions (with_action d (action_with a done)))) refuse
      (lead (at_settings d a done) (at_actions (with_action d (action_with a done))) close' None (λ r. (([], r), refl)))
      (others (at_settings d a done)))
  does (at_setting d a done) =
      by_symbol (Does (at_setting d a done)) (setting_word d a done) refuse
      (λ w. lead (at_setting d a done) (at_value d a done (field_named (acting_class a) d.names w)) (symbol w) (lacking (acting_class a) d.names w) (λ r. ((record { attribute = w; value = r.0 }, r.1, r.2), refl)))
      (others (at_setting d a done))
  does (at_value d a done f) = by_operand (Does (at_value d a done f)) (value_word d a done f) refuse (does_value d a done f) (others (at_value d a done f))

  bad : (s : State) (w : List ℕ) → turned cs rs s (illegal w) ≡ fails IllegalWord
  bad (at_opening ns) w = refl
  bad (at_head ns) w = refl
  bad (at_name ns) w = refl
  bad (at_first d) w = refl
  bad (at_conditions d) w = refl
  bad (at_negated d) w = refl
  bad (at_class d b) w = refl
  bad (at_pairs d c) w = refl
  bad (at_attribute d c) w = refl
  bad (at_test d c f) w = refl
  bad (at_choice d c f) w = refl
  bad (at_operand d c f p) w = refl
  bad (at_choices d c f vs) w = refl
  bad (at_actions d) w = refl
  bad (at_action d) w = refl
  bad (at_make d) w = refl
  bad (at_modify d) w = refl
  bad (at_remove d) w = refl
  bad (at_closing d) w = refl
  bad (at_settings d a done) w = refl
  bad (at_setting d a done) w = refl
  bad (at_value d a done f) w = refl

  -- ---- what follows for a whole production

  module _ (ns : List (List ℕ)) where
    pub takes : (ls : List Lexeme) (e : Asked) (after : List Lexeme) → run (turned cs rs) (at_opening ns) ls ≡ taken e after → Takes (production_script cs rs ns) ls e after
    takes = run-takes (turned cs rs) Rest left some see does bad (at_opening ns)

    pub none : (ls back : List Lexeme) (c : Cause) → run (turned cs rs) (at_opening ns) ls ≡ stopped c back → TakesNone (production_script cs rs ns) ls
    none = stopped_none (turned cs rs) Rest left some see does bad (at_opening ns)

    pub broken : (ls back : List Lexeme) (end : ℕ) (c : Cause) (p : ℕ) → run (turned cs rs) (at_opening ns) ls ≡ stopped c back → p ≡ place_of end back → Broken (production_script cs rs ns) ls end c p
    broken = run-broken (turned cs rs) Rest left some see does bad (at_opening ns)

    pub fewer : (ls : List Lexeme) (e : Asked) (after : List Lexeme) → Takes (production_script cs rs ns) ls e after → length after < length ls
    fewer = takes_fewer (turned cs rs) Rest left some see does bad (at_opening ns)

    pub one-fits : OneAnswer (production_script cs rs ns)
    one-fits = one_answer (turned cs rs) Rest left some see does bad (at_opening ns)
