-- The rule that a production asks for, if nothing is wrong with its words, is fit and enters the base. Assumes nothing.
use Rattle.std.proofs.Common.{◌≡◌, ℕ, ◌+◌, ◌<◌, ◌≤◌, Bool, true, false, cond, not, ◌||◌, eqb, ltb, leb, List, [], ◌∷◌, ◌++◌, length, is_some, Some, None, Ok, Option, unwrap_or, sym, refl, ap, ◌∙◌, subst, arith, ltb-false, le-ltb, le-leb, leb-false}
use borrow.Author.Tests.{lt-leb}
use Rattle.std.proofs.lemmas.List.{length_push}
use Rattle.std.proofs.lemmas.Bool.{and_from, or_parts, or_from, cond-false}
use Rattle.values.specs.declared.value.Value.{Value}
use Rattle.values.specs.Naming.{number_of, answer_intern}
use Rattle.values.proofs.Finding.{found}
use Rattle.rules.specs.Attributes.{Declared}
use Rattle.rules.specs.Bases.{rule_named, answer_enter, after_enter}
use Rattle.rules.specs.Carried.{carried}
use Rattle.rules.specs.Fitness.{term_variables, test_variables, within, test_met, fit_test, also_test, fit_tests, bound_after, fit_condition, fit_conditions, unnegated, bound_by, fit_settings, names_condition, condition_class, fit_action, fit_actions}
use Rattle.rules.specs.Rules.{Test, plain, compared, choice, FieldTest, Condition, Setting, Action, makes, modifies, removes, halts, Rule}
use Rattle.rules.specs.Sizes.{Size, size, tests_in, test_constants, tests_constants, constants_in, settings_in, size_of, together, size_of_all, excessive}
use Rattle.languages.specs.Refusals.{wrong_name, no_such_condition, over_limit}
use Rattle.languages.specs.Scripts.{Script, judged_in, asked_by, Faultless}
use Rattle.languages.specs.Naming.{numbered, class_named, field_at, field_named, undeclared, lacking, value_fault, after_value, value_of}
use Rattle.productions.specs.Forms.{Operand, fixed, named, Chosen, constant_in, TestForm, bare, under, one_of, PairForm, Pattern, ConditionForm, positive, negative, SettingForm, ActionForm, making, modifying, removing, halting, ProductionForm}
use Rattle.productions.specs.Sofar.{Met, Sofar, with_names, with_used, with_variables, with_condition, with_action, one_test, one_constant, one_setting, with_test, rule_read, full, test_fault, rule_at, name_fault, ordinal, term_for, operand_fault, after_operand, with_variable, given_fault, Acting, on_make, on_modify, acting_class, action_with}
use Rattle.productions.specs.Spelling.{Asked, value_script, settings_script, action_script, actions_script, choice_script, test_script, pairs_script, pattern_script, conditions_script, begun, production_script}
use Rattle.productions.proofs.Carrying.{along_more, tests-more, constants-more, test_constants-more, settings-more, unnegated-more, fit_settings-more, fit_actions-more}
use Rattle.productions.proofs.Faults.{no_fault, no_lack, neither, room}
use Rattle.productions.proofs.Bound.{Known, known-test, known-operand, met-operand, Bound, known-none, known-all, bound_operand}

-- a rule that can be matched and fired, and for which the base has room
pub record Fit (rs : List Rule) (r : Rule) : Type 0 where
  pub matched : 1 ≤ length (unnegated r.conditions)
  pub tagged : length (unnegated r.conditions) ≤ 6
  pub few : length r.conditions ≤ 8
  pub met : fit_conditions [] r.conditions ≡ true
  pub short : length r.actions ≤ 8
  pub tests : tests_in r.conditions ≤ 512
  pub constants : constants_in r.conditions ≤ 256
  pub settings : settings_in r.actions ≤ 256
  pub bound : fit_actions r.conditions r.actions ≡ true
  pub entered : after_enter rs r ≡ rs ++ r ∷ []
  pub answered : answer_enter rs r ≡ Ok tt

-- ---- what no fault says

-- an attribute that the class has is one of its fields
field-within : (c : Declared) (ns : List (List ℕ)) (w : List ℕ) → lacking c ns w ≡ None → within c (field_named c ns w) ≡ true
field-within c ns w e = at (field_at c (number_of ns w)) (place (number_of ns w)) (no_lack (is_some (field_at c (number_of ns w))) wrong_name None e).0
  where
    place : (m : Option ℕ) (i : ℕ) → field_at c m ≡ Some i → within c i ≡ true
    place None i q = let z : ◌≡◌ {A = ℕ} 0 1 = cc in absurd (omega arith)
    place (Some a) i q =
        let f = found (λ x. eqb x a) 0 c.attributes 1 i q in
        and_from (leb 1 i) (leb i (length c.attributes)) (le-leb 1 i (omega arith)) (le-leb i (length c.attributes) (omega arith))

    at : (m : Option ℕ) → ((i : ℕ) → m ≡ Some i → within c i ≡ true) → is_some m ≡ true → within c (unwrap_or m 0) ≡ true
    at None f h = let z : ◌≡◌ {A = ℕ} 0 1 = cc in absurd (omega arith)
    at (Some i) f h = f i refl

-- a name that no rule has, and room for a rule
new_name : (rs : List Rule) (ns : List (List ℕ)) (w : List ℕ) → name_fault rs ns w ≡ None → (rule_named rs (numbered ns w) ≡ false) × (length rs < 64)
new_name rs ns w = go (answer_intern ns w)
  where
    go : (m : Option ℕ) → cond (rule_at rs m) (Some wrong_name) (cond (leb 64 (length rs) || not (is_some m)) (Some over_limit) None) ≡ None → (rule_named rs (unwrap_or m 0) ≡ false) × (length rs < 64)
    go None e =
        let p = or_parts (leb 64 (length rs)) true (no_fault (leb 64 (length rs) || true) over_limit None e).0 in
        let z : ◌≡◌ {A = ℕ} 0 1 = cc p.1 in
        absurd (omega arith)
    go (Some i) e =
        let n = no_fault (rule_named rs i) wrong_name _ e in
        let p = or_parts (leb 64 (length rs)) false (no_fault (leb 64 (length rs) || false) over_limit None n.1).0 in
        (n.0, leb-false 64 (length rs) p.0)

-- ---- how much is used up

-- what is used, where t tests, k constants of choices and s settings came to what the base has
record Counted (base used : Size) (t k s : ℕ) : Type 0 where
  tests : used.tests ≡ base.tests + t
  constants : used.constants ≡ base.constants + k
  settings : used.settings ≡ base.settings + s
  few_tests : used.tests ≤ 512
  few_constants : used.constants ≤ 256
  few_settings : used.settings ≤ 256

counted_none : (base : Size) → excessive base ≡ false → Counted base base 0 0 0
counted_none base e =
    let p = or_parts (ltb 512 base.tests) _ e in
    let q = or_parts (ltb 256 base.constants) (ltb 256 base.settings) p.1 in
    record {
      tests = omega arith;
      constants = omega arith;
      settings = omega arith;
      few_tests = ltb-false 512 base.tests p.0;
      few_constants = ltb-false 256 base.constants q.0;
      few_settings = ltb-false 256 base.settings q.1;
    }

recounted : {base used : Size} {t k s t' k' s' : ℕ} → Counted base used t k s → t ≡ t' → k ≡ k' → s ≡ s' → Counted base used t' k' s'
recounted c p q r = record { tests = omega arith; constants = omega arith; settings = omega arith; few_tests = c.few_tests; few_constants = c.few_constants; few_settings = c.few_settings }

-- one test, one constant and one setting more
test-counted : {base used : Size} {t k s t' k' : ℕ} → Counted base used t k s → used.tests < 512 → t + 1 ≡ t' → k ≡ k' → Counted base (size (used.tests + 1) used.constants used.settings) t' k' s
test-counted c h p q = record { tests = omega arith; constants = omega arith; settings = c.settings; few_tests = omega arith; few_constants = c.few_constants; few_settings = c.few_settings }

constant-counted : {base used : Size} {t k s k' : ℕ} → Counted base used t k s → used.constants < 256 → k + 1 ≡ k' → Counted base (size used.tests (used.constants + 1) used.settings) t k' s
constant-counted c h q = record { tests = c.tests; constants = omega arith; settings = c.settings; few_tests = c.few_tests; few_constants = omega arith; few_settings = c.few_settings }

setting-counted : {base used : Size} {t k s s' : ℕ} → Counted base used t k s → used.settings < 256 → s + 1 ≡ s' → Counted base (size used.tests used.constants (used.settings + 1)) t k s'
setting-counted c h r = record { tests = c.tests; constants = c.constants; settings = omega arith; few_tests = c.few_tests; few_constants = c.few_constants; few_settings = omega arith }

-- the base has room for what was counted
enough : (base used : Size) (r : Rule) → Counted base used (tests_in r.conditions) (constants_in r.conditions) (settings_in r.actions) → excessive (together base (size_of r)) ≡ false
enough base used r c =
    or_from (ltb 512 (base.tests + tests_in r.conditions)) _ (le-ltb 512 _ (omega arith))
    (or_from (ltb 256 (base.constants + constants_in r.conditions)) (ltb 256 (base.settings + settings_in r.actions)) (le-ltb 256 _ (omega arith)) (le-ltb 256 _ (omega arith)))

-- ---- what holds while a production is read

-- a new name, and fit conditions
record Sound (rs : List Rule) (name : ℕ) (bs : List Condition) : Type 0 where
  fresh : rule_named rs name ≡ false
  place : length rs < 64
  tagged : length (unnegated bs) ≤ 6
  few : length bs ≤ 8
  met : fit_conditions [] bs ≡ true

-- between two conditions
record Between (rs : List Rule) (d : Sofar) : Type 0 where
  sound : Sound rs d.name d.conditions
  none : d.actions ≡ []
  bound : Bound d.conditions d.variables
  counted : Counted (size_of_all rs) d.used (tests_in d.conditions) (constants_in d.conditions) 0

-- inside the condition c
record Inside (rs : List Rule) (d : Sofar) (c : Condition) : Type 0 where
  sound : Sound rs d.name d.conditions
  none : d.actions ≡ []
  few : length d.conditions < 8
  matched : 1 ≤ length (unnegated d.conditions) + cond c.negated 0 1
  tagged : length (unnegated d.conditions) + cond c.negated 0 1 ≤ 6
  tested : fit_tests c.class (bound_by d.conditions) c.tests ≡ true
  known : Known d.conditions c d.variables
  counted : Counted (size_of_all rs) d.used (tests_in d.conditions + (1 + length c.tests)) (constants_in d.conditions + tests_constants c.tests) 0

-- between two actions
record Doing (rs : List Rule) (d : Sofar) : Type 0 where
  sound : Sound rs d.name d.conditions
  matched : 1 ≤ length (unnegated d.conditions)
  bound : Bound d.conditions d.variables
  counted : Counted (size_of_all rs) d.used (tests_in d.conditions) (constants_in d.conditions) (settings_in d.actions)
  short : length d.actions ≤ 8
  fits : fit_actions d.conditions d.actions ≡ true

module _ (cs : List Declared) (rs : List Rule) where
  -- if nothing is wrong with the words, the rule in the end is fit
  abbrev Good : Script Asked → Type 0
  Good x = Faultless (judged_in x) → Fit rs (asked_by x).0

  -- ---- actions

  -- all was read
  whole-rule : (d : Sofar) → Doing rs d → Fit rs (rule_read d)
  whole-rule d g =
      let c = g.counted in
      let s = g.sound in
      let room : (leb 64 (length rs) || excessive (together (size_of_all rs) (size_of (rule_read d)))) ≡ false = or_from _ _ (lt-leb 64 (length rs) s.place) (enough (size_of_all rs) d.used (rule_read d) c) in
      record {
        matched = g.matched;
        tagged = s.tagged;
        few = s.few;
        met = s.met;
        short = g.short;
        tests = omega arith;
        constants = omega arith;
        settings = omega arith;
        bound = g.fits;
        entered = cond-false (rule_named rs d.name) _ _ s.fresh ∙ cond-false _ _ _ room;
        answered = cond-false (rule_named rs d.name) _ _ s.fresh ∙ cond-false _ _ _ room;
      }

  -- one action more
  one-action : (d : Sofar) (ns : List (List ℕ)) (u : Size) (a : Action) → Doing rs d → length d.actions < 8 → fit_action d.conditions a ≡ true → Counted (size_of_all rs) u (tests_in d.conditions) (constants_in d.conditions) (settings_in (d.actions ++ a ∷ [])) → Doing rs (with_action (with_used (with_names d ns) u) a)
  one-action d ns u a g h f c =
      let long = length_push d.actions a in
      record {
        sound = g.sound;
        matched = g.matched;
        bound = g.bound;
        counted = c;
        short = omega arith;
        fits = fit_actions-more d.conditions d.actions a g.fits f;
      }

  -- the value of a setting
  value-fit : (d : Sofar) (done : List Setting) (f : ℕ) (v : Operand) (go : Sofar → List Setting → Script Asked) → (given_fault d v ≡ None → d.used.settings < 256 → (ns : List (List ℕ)) → Good (go (one_setting (with_names d ns)) (done ++ record { field = f; value = term_for d v } ∷ []))) → Good (value_script cs rs d done f v go)
  value-fit d done f (fixed x) go after h =
      let n = neither (given_fault d (fixed x)) (full 256 d.used.settings) h.0 in
      after n.0 (room 256 d.used.settings n.1) (after_value d.names x) h.1
  value-fit d done f (named w) go after h =
      let n = neither (given_fault d (named w)) (full 256 d.used.settings) h.0 in
      after n.0 (room 256 d.used.settings n.1) d.names h.1

  -- settings
  settings-fit : (d : Sofar) (a : Acting) (done : List Setting) (ss : List SettingForm) (go : Sofar → Script Asked) (t k s : ℕ) → Bound d.conditions d.variables → fit_settings (acting_class a) (bound_by d.conditions) done ≡ true → Counted (size_of_all rs) d.used t k (s + length done) →
      ((ns : List (List ℕ)) (u : Size) (all : List Setting) → fit_settings (acting_class a) (bound_by d.conditions) all ≡ true → Counted (size_of_all rs) u t k (s + length all) → Good (go (with_action (with_used (with_names d ns) u) (action_with a all)))) →
      Good (settings_script cs rs d a done ss go)
  settings-fit d a done [] go t k s b f c after h = after d.names d.used done f c h.1
  settings-fit d a done (x ∷ xs) go t k s b f c after h =
      let field = field_named (acting_class a) d.names x.attribute in
      let within = field-within (acting_class a) d.names x.attribute h.1.0 in
      let made : Setting = record { field = field; value = term_for d x.value } in
      value-fit d done field x.value (λ e more. settings_script cs rs e a more xs go)
      (λ g r ns.
      let long = length_push done made in
      settings-fit (one_setting (with_names d ns)) a (done ++ made ∷ []) xs go t k s b
      (fit_settings-more (acting_class a) (bound_by d.conditions) done made f within (bound_operand d x.value b g))
      (setting-counted c r (omega arith))
      after)
      h.1.1

  -- an action
  action_fit : (d : Sofar) (a : ActionForm) (go : Sofar → Script Asked) → Doing rs d → length d.actions < 8 → ((e : Sofar) → Doing rs e → Good (go e)) → Good (action_script cs rs d a go)
  action_fit d (making c ss) go g r after h =
      let k : Declared = class_named cs d.names c in
      settings-fit d (on_make k) [] ss go (tests_in d.conditions) (constants_in d.conditions) (settings_in d.actions) g.bound refl
      (recounted g.counted refl refl (omega arith))
      (λ ns u all f m. after _ (one-action d ns u (makes k all) g r f (rw settings-more m)))
      h.1.1
  action_fit d (modifying z ss) go g r after h =
      let k : Declared = condition_class d.conditions (ordinal z) in
      let names = (no_lack (names_condition d.conditions (ordinal z)) no_such_condition None h.1.0).0 in
      settings-fit d (on_modify (ordinal z) k) [] ss go (tests_in d.conditions) (constants_in d.conditions) (settings_in d.actions) g.bound refl
      (recounted g.counted refl refl (omega arith))
      (λ ns u all f m. after _ (one-action d ns u (modifies (ordinal z) all) g r (and_from _ _ names f) (rw settings-more m)))
      h.1.1
  action_fit d (removing z) go g r after h =
      let names = (no_lack (names_condition d.conditions (ordinal z)) no_such_condition None h.1.0).0 in
      let more = settings-more d.actions (removes (ordinal z)) in
      after _
      (one-action d d.names d.used (removes (ordinal z)) g r names
      (recounted g.counted refl refl (omega arith)))
      h.1.1.1
  action_fit d halting go g r after h =
      let more = settings-more d.actions halts in
      after _
      (one-action d d.names d.used halts g r refl
      (recounted g.counted refl refl (omega arith)))
      h.1.1

  actions-fit : (d : Sofar) (as' : List ActionForm) → Doing rs d → Good (actions_script cs rs d as')
  actions-fit d [] g h = whole-rule d g
  actions-fit d (a ∷ as') g h = action_fit d a (λ e. actions_script cs rs e as') g (room 8 (length d.actions) h.0) (λ e f. actions-fit e as' f) h.1

  -- ---- conditions

  -- one test more, after which the names are ns, the variables vs and the size u
  one-test : (d : Sofar) (c : Condition) (f : ℕ) (t : Test) (ns : List (List ℕ)) (vs : List Met) (u : Size) → Inside rs d c → within c.class f ≡ true → test_met (carried also_test (bound_by d.conditions) c.tests) t ≡ true → Known d.conditions (with_test c f t) vs →
      Counted (size_of_all rs) u (tests_in d.conditions + (2 + length c.tests)) (constants_in d.conditions + tests_constants c.tests + test_constants t) 0 →
      Inside rs (with_used (with_variables (with_names d ns) vs) u) (with_test c f t)
  one-test d c f t ns vs u i w m k n =
      let made : FieldTest = record { field = f; test = t } in
      let long = length_push c.tests made in
      let more = test_constants-more c.tests made in
      record {
        sound = i.sound;
        none = i.none;
        few = i.few;
        matched = i.matched;
        tagged = i.tagged;
        tested = along_more also_test (fit_test c.class) (bound_by d.conditions) c.tests made ∙ and_from _ _ i.tested (and_from _ _ w m);
        known = k;
        counted = recounted n (omega arith) (omega arith) refl;
      }

  one-operand : (d : Sofar) (c : Condition) (f : ℕ) (t : Test) (o : Operand) → Inside rs d c → d.used.tests < 512 → within c.class f ≡ true → test_met (carried also_test (bound_by d.conditions) c.tests) t ≡ true → test_variables t ≡ term_variables (term_for d o) → test_constants t ≡ 0 → Inside rs (after_operand (one_test d) c.negated o) (with_test c f t)
  one-operand d c f t o i r w m v z = go o (known-operand d c f t o v i.known)
    where
      more : Counted (size_of_all rs) (one_test d).used (tests_in d.conditions + (2 + length c.tests)) (constants_in d.conditions + tests_constants c.tests + test_constants t) 0
      more = test-counted i.counted r (omega arith) (omega arith)

      go : (p : Operand) → Known d.conditions (with_test c f t) (after_operand d c.negated p).variables → Inside rs (after_operand (one_test d) c.negated p) (with_test c f t)
      go (fixed x) k = one-test d c f t (after_value d.names x) d.variables (one_test d).used i w m k more
      go (named x) k = one-test d c f t d.names (with_variable d c.negated x) (one_test d).used i w m k more

  -- a choice
  choice-fit : (d : Sofar) (vs : List Value) (ws : List Chosen) (go : Sofar → List Value → Script Asked) (t k : ℕ) → Counted (size_of_all rs) d.used t (k + length vs) 0 →
      ((ns : List (List ℕ)) (u : Size) (all : List Value) → Counted (size_of_all rs) u t (k + length all) 0 → Good (go (with_used (with_names d ns) u) all)) →
      Good (choice_script cs rs d vs ws go)
  choice-fit d vs [] go t k c after h = after d.names d.used vs c h.1
  choice-fit d vs (w ∷ ws) go t k c after h =
      let n = room 256 d.used.constants (neither (value_fault d.names (constant_in w.word)) (full 256 d.used.constants) h.0).1 in
      let v = value_of d.names (constant_in w.word) in
      let long = length_push vs v in
      choice-fit (one_constant (with_names d (after_value d.names (constant_in w.word)))) (vs ++ v ∷ []) ws go t k
      (constant-counted c n (omega arith))
      after
      h.1

  -- one test counted makes no other term
  same_term : (d : Sofar) (o : Operand) → term_for (one_test d) o ≡ term_for d o
  same_term d (fixed x) = refl
  same_term d (named w) = refl

  test-fit : (d : Sofar) (c : Condition) (f : ℕ) (t : TestForm) (go : Sofar → Condition → Script Asked) → Inside rs d c → within c.class f ≡ true → ((e : Sofar) (b : Condition) → Inside rs e b → Good (go e b)) → Good (test_script cs rs d c f t go)
  test-fit d c f (bare o) go i w after h =
      let n = neither (operand_fault d true o) (test_fault d) h.0 in
      after _ _ (one-operand d c f (plain (term_for d o)) o i (room 512 d.used.tests n.1) w refl refl refl) h.1
  test-fit d c f (under p o a) go i w after h =
      let r = room 512 d.used.tests h.0 in
      let m = met-operand (one_test d) c p o i.known h.1.0 in
      after _ _ (one-operand d c f (compared p (term_for (one_test d) o)) o i r w m (ap term_variables (same_term d o)) refl) h.1.1
  test-fit d c f (one_of x xs) go i w after h =
      let r = room 512 d.used.tests h.0 in
      choice-fit (one_test d) [] (x ∷ xs) (λ e vs. go e (with_test c f (choice vs))) (tests_in d.conditions + (2 + length c.tests)) (constants_in d.conditions + tests_constants c.tests)
      (test-counted i.counted r (omega arith) (omega arith))
      (λ ns u vs m. after _ _ (one-test d c f (choice vs) ns d.variables u i w refl (known-test d.conditions c d.variables f (choice vs) i.known) m))
      h.1

  -- a condition that is at its end
  one-condition : (d : Sofar) (c : Condition) → Inside rs d c → Between rs (with_condition d c) × (1 ≤ length (unnegated (d.conditions ++ c ∷ [])))
  one-condition d c i =
      let long = length_push d.conditions c in
      let tags = unnegated-more d.conditions c in
      let s = i.sound in
      let tests = tests-more d.conditions c in
      let constants = constants-more d.conditions c in (
        record {
          sound = record {
            fresh = s.fresh;
            place = s.place;
            tagged = omega arith;
            few = omega arith;
            met = along_more bound_after fit_condition [] d.conditions c ∙ and_from _ _ s.met i.tested;
          };
          none = i.none;
          bound = known-all d.conditions c d.variables i.known;
          counted = recounted i.counted (omega arith) (omega arith) refl;
        },
        omega arith,
      )

  pairs-fit : (d : Sofar) (c : Condition) (ps : List PairForm) (go : Sofar → Script Asked) → Inside rs d c → ((e : Sofar) → Between rs e → 1 ≤ length (unnegated e.conditions) → Good (go e)) → Good (pairs_script cs rs d c ps go)
  pairs-fit d c [] go i after h = let b = one-condition d c i in after _ b.0 b.1 h.1
  pairs-fit d c (p ∷ ps) go i after h =
      test-fit d c (field_named c.class d.names p.attribute) p.test (λ e b. pairs_script cs rs e b ps go) i (field-within c.class d.names p.attribute h.1.0)
      (λ e b j. pairs-fit e b ps go j after)
      h.1.1

  pattern_fit : (d : Sofar) (negated : Bool) (p : Pattern) (go : Sofar → Script Asked) → Between rs d → length d.conditions < 8 → 1 ≤ length (unnegated d.conditions) + cond negated 0 1 → length (unnegated d.conditions) + cond negated 0 1 ≤ 6 →
      ((e : Sofar) → Between rs e → 1 ≤ length (unnegated e.conditions) → Good (go e)) →
      Good (pattern_script cs rs d negated p go)
  pattern_fit d negated p go b few matched tagged after h =
      let k : Declared = class_named cs d.names p.class in
      let r = room 512 d.used.tests (neither (undeclared cs d.names p.class) (test_fault d) h.0).1 in
      pairs-fit (one_test d) (record { negated = negated; class = k; tests = [] }) p.pairs go
      (record {
        sound = b.sound;
        none = b.none;
        few = few;
        matched = matched;
        tagged = tagged;
        tested = refl;
        known = known-none d.conditions negated k d.variables b.bound;
        counted = test-counted b.counted r (omega arith) (omega arith);
      })
      after
      h.1

  -- the conditions end, and the actions begin
  no_action : (d : Sofar) → Between rs d → 1 ≤ length (unnegated d.conditions) → Doing rs d
  no_action d b m = record {
    sound = b.sound;
    matched = m;
    bound = b.bound;
    counted = subst (λ as'. Counted (size_of_all rs) d.used (tests_in d.conditions) (constants_in d.conditions) (settings_in as')) (sym b.none) b.counted;
    short = rw b.none (omega arith);
    fits = ap (fit_actions d.conditions) b.none;
  }

  conditions-fit : (d : Sofar) (ps : List ConditionForm) (as' : List ActionForm) → Between rs d → 1 ≤ length (unnegated d.conditions) → Good (conditions_script cs rs d ps as')
  conditions-fit d [] as' b m h = actions-fit d as' (no_action d b m) h.1
  conditions-fit d (positive p ∷ ps) as' b m h =
      let q = or_parts (leb 8 (length d.conditions)) (leb 6 (length (unnegated d.conditions))) (no_fault _ over_limit None h.0).0 in
      let few = leb-false 8 (length d.conditions) q.0 in
      let tagged = leb-false 6 (length (unnegated d.conditions)) q.1 in
      pattern_fit d false p (λ e. conditions_script cs rs e ps as') b few (omega arith) (omega arith) (λ e c n. conditions-fit e ps as' c n) h.1
  conditions-fit d (negative p ∷ ps) as' b m h =
      let s = b.sound in
      pattern_fit d true p (λ e. conditions_script cs rs e ps as') b (room 8 (length d.conditions) h.0) (omega arith) (omega arith) (λ e c n. conditions-fit e ps as' c n) h.1.1

-- ---- the whole

pub fit : (cs : List Declared) (rs : List Rule) (ns : List (List ℕ)) (f : ProductionForm) → excessive (size_of_all rs) ≡ false → Faultless (judged_in (production_script cs rs ns f)) → Fit rs (asked_by (production_script cs rs ns f)).0
fit cs rs ns f e h =
    let n = new_name rs ns f.name h.1.1.0 in
    pattern_fit cs rs (begun rs ns f.name) false f.first (λ d. conditions_script cs rs d f.others f.actions)
    (record {
      sound = record { fresh = n.0; place = n.1; tagged = omega arith; few = omega arith; met = refl };
      none = refl;
      bound = λ i l. absurd (omega arith);
      counted = counted_none (size_of_all rs) e;
    })
    (omega arith)
    (omega arith)
    (omega arith)
    (λ d b m. conditions-fit cs rs d f.others f.actions b m)
    h.1.1.1.1
