-- What the words of a production ask for, word by word: nothing is wrong with them exactly where all of it holds. Assumes nothing.
use Rattle.std.proofs.Common.{◌≡◌, ℕ, zero, suc, ◌+◌, ◌-◌, ◌<◌, ◌≤◌, Bool, true, false, cond, leb, List, [], ◌∷◌, ◌++◌, map, length, get_or, ℤ, is_some, Some, None, Option, unwrap_or, sym, refl, ap, ◌∙◌, subst, append_assoc, append-nil, arith, le-leb, leb-false, leb-true}
use borrow.Author.Tests.{lt-leb}
use lib.ListN.{length-map}
use Rattle.std.proofs.lemmas.List.{get_or-map, length_push}
use Rattle.std.proofs.lemmas.Bool.{and_parts, and_from, or_parts, or_from, cond-true, cond-false}
use Rattle.values.specs.declared.value.Value.{Value}
use Rattle.values.specs.Naming.{number_of, after_intern}
use Rattle.rules.specs.Attributes.{Declared, new_class}
use Rattle.rules.specs.Fitness.{unnegated, names_condition, condition_class}
use Rattle.rules.specs.Rules.{FieldTest, Condition, Setting, Rule}
use Rattle.rules.specs.Sizes.{Size, size_of_all}
use Rattle.languages.specs.Refusals.{Fault, wrong_name, no_such_condition, over_limit}
use Rattle.languages.specs.Scripts.{Script, or_fault, judged_in, Faultless}
use Rattle.languages.specs.Naming.{Grows, unnameable, class_at, field_at, class_named, field_named, undeclared, lacking, value_fault, after_value, Constant, symbolic, numeric}
use Rattle.productions.specs.Forms.{Operand, fixed, named, Chosen, constant_in, TestForm, bare, under, one_of, PairForm, Pattern, ConditionForm, positive, negative, SettingForm, ActionForm, making, modifying, removing, halting, ProductionForm}
use Rattle.productions.specs.Sofar.{Met, Sofar, with_names, with_condition, one_test, one_constant, one_setting, full, negated_fault, condition_fault, action_fault, test_fault, chosen_fault, setting_fault, name_fault, ordinal, ordinal_fault, first_met, met_fault_among, unbound_among, met_too, operand_fault, after_operand, given_fault, after_given, binding, Acting, on_make, on_modify, acting_class}
use Rattle.productions.specs.Spelling.{Asked, begun, settings_script, action_script, actions_script, choice_script, test_script, pairs_script, pattern_script, conditions_script, production_script}
use Rattle.productions.specs.Said.{constant_symbols, operand_symbols, chosen_symbols, test_symbols, pairs_symbols, conditions_symbols, settings_symbols, action_symbols, actions_symbols}
use Rattle.productions.specs.Kept.{Every, Known, Occurrence, Contents, nothing, valuing, of_class, belonging, naming, testing, choosing, setting, operand_contents, choice_contents, test_contents, pairs_contents, pattern_contents, conditions_contents, value_contents, settings_contents, action_contents, actions_contents, unnegated_classes, matched, contents}
use Rattle.productions.proofs.Faults.{no_fault, no_lack, neither, both_none, room, has_room}
use Rattle.productions.proofs.Growing.{behind_none, behind_one, behind_value, same_class, same_field, Nameables}

-- ---- two ways to say one thing

pub record Iff (A B : Type 0) : Type 0 where
  pub to : A → B
  pub back : B → A

-- more is said before
step : {R P G H : Type 0} → Iff R G → Iff (P × G) H → Iff (P × R) H
step f g = record { to = λ h. g.to (h.0, f.to h.1); back = λ h. let p = g.back h in (p.0, f.back p.1) }

-- where what is said before may be used
step_under : {R P G H : Type 0} → (P → Iff R G) → Iff (P × G) H → Iff (P × R) H
step_under f g = record { to = λ h. g.to (h.0, (f h.0).to h.1); back = λ h. let p = g.back h in (p.0, (f p.0).back p.1) }

-- nothing can be wrong
free : {R H : Type 0} → Iff R H → Iff ((◌≡◌ {A = Option Fault} None None) × R) H
free f = record { to = λ h. f.to h.1; back = λ h. (refl, f.back h) }

-- two rules for one word, the first or the second of them first
first_then : (f g : Option Fault) {R G H : Type 0} → Iff ((g ≡ None) × R) G → Iff ((f ≡ None) × G) H → Iff ((or_fault f g ≡ None) × R) H
first_then f g i j = record {
  to = λ h. let n = neither f g h.0 in j.to (n.0, i.to (n.1, h.1));
  back = λ h.
      let p = j.back h in
      let q = i.back p.1 in
      (both_none f g p.0 q.0, q.1);
}

second_then : (f g : Option Fault) {R G H : Type 0} → Iff ((f ≡ None) × R) G → Iff ((g ≡ None) × G) H → Iff ((or_fault f g ≡ None) × R) H
second_then f g i j = record {
  to = λ h. let n = neither f g h.0 in j.to (n.1, i.to (n.0, h.1));
  back = λ h.
      let p = j.back h in
      let q = i.back p.1 in
      (both_none f g q.0 p.0, q.1);
}

-- ---- room for more

-- where there are n, there is room for k more
abbrev pub Room : ℕ → ℕ → ℕ → Type 0
Room most n k = (j : ℕ) → j < k → n + j < most

more_room : (most n k : ℕ) → n < most → Room most (n + 1) k → Room most n (1 + k)
more_room most n k e r zero h = omega arith
more_room most n k e r (suc j) h = let l = r j (omega arith) in omega arith

one-room : (most n k : ℕ) → Iff ((full most n ≡ None) × Room most (n + 1) k) (Room most n (1 + k))
one-room most n k = record {
  to = λ h. more_room most n k (room most n h.0) h.1;
  back = λ r. (has_room most n (let l = r 0 (omega arith) in omega arith), λ j h. let l = r (j + 1) (omega arith) in omega arith);
}

pub all_room : (most n k : ℕ) → n ≤ most → Room most n k → n + k ≤ most
all_room most n zero h r = omega arith
all_room most n (suc k) h r = let l = r k (omega arith) in omega arith

pub room_all : (most n k : ℕ) → n + k ≤ most → Room most n k
room_all most n k h j l = omega arith

-- ---- what the words from here on ask for

-- each variable of a row may stand where it stands, when its turn comes
abbrev pub Mets : List Met → List Occurrence → Type 0
Mets vs [] = Unit {0}
Mets vs (o ∷ os) = (met_fault_among vs o.condition o.binds o.word (first_met vs o.word) ≡ None) × Mets (met_too vs o.negated o.condition o.word) os

-- the variables that are met after a row
abbrev pub met_all : List Met → List Occurrence → List Met
met_all vs [] = vs
met_all vs (o ∷ os) = met_all (met_too vs o.negated o.condition o.word) os

-- a variable that an action may use
abbrev pub Usable : List Met → List ℕ → Type 0
Usable vs w = unbound_among vs (first_met vs w) ≡ None

-- where the names are l, the variables vs and u is used up, the symbols ws and the contents r are right, and Q besides
pub record Holds (cs : List Declared) (ns ms : List (List ℕ)) (Q : Type 0) (l : List (List ℕ)) (vs : List Met) (u : Size) (ws : List (List ℕ)) (r : Contents) : Type 0 where
  pub besides : Q
  pub symbols : Nameables l ws
  pub met : Mets vs r.occurrences
  pub used : Every (Usable (met_all vs r.occurrences)) r.used
  pub tests : Room 512 u.tests r.tests
  pub constants : Room 256 u.constants r.constants
  pub settings : Room 256 u.settings r.settings
  pub classes : Every (λ w. is_some (class_at cs (number_of ns w)) ≡ true) r.classes
  pub attributes : Every (λ b. is_some (field_at (class_named cs ns b.class) (number_of ns b.attribute)) ≡ true) r.attributes
  pub ordinals : Every (λ k. (1 ≤ ordinal k) × (ordinal k ≤ length ms)) r.ordinals

-- what holds of a place: n whole conditions, of which the unnegated ones are of the classes ks, m actions, and the names ns before
-- all others
record Stage (ns : List (List ℕ)) (n : ℕ) (ks : List Declared) (m : ℕ) (d : Sofar) : Type 0 where
  conditions : length d.conditions ≡ n
  classes : map (λ c. c.class) (unnegated d.conditions) ≡ ks
  actions : length d.actions ≡ m
  names : Grows ns d.names

-- a condition with these tests
abbrev made : Bool → Declared → List FieldTest → Condition
made negated k ts = record { negated = negated; class = k; tests = ts }

classes-more : (bs : List Condition) (c : Condition) → map (λ b. b.class) (unnegated (bs ++ c ∷ [])) ≡ cond c.negated (map (λ b. b.class) (unnegated bs)) (map (λ b. b.class) (unnegated bs) ++ c.class ∷ [])
classes-more [] c = go c.negated
  where
    go : (b : Bool) → map (λ x. x.class) (cond b [] (c ∷ [])) ≡ cond b [] (c.class ∷ [])
    go true = refl
    go false = refl
classes-more (b ∷ bs) c = go b.negated c.negated (classes-more bs c)
  where
    go : (n q : Bool) → map (λ x. x.class) (unnegated (bs ++ c ∷ [])) ≡ cond q (map (λ x. x.class) (unnegated bs)) (map (λ x. x.class) (unnegated bs) ++ c.class ∷ []) → map (λ x. x.class) (cond n (unnegated (bs ++ c ∷ [])) (b ∷ unnegated (bs ++ c ∷ []))) ≡ cond q (map (λ x. x.class) (cond n (unnegated bs) (b ∷ unnegated bs))) (map (λ x. x.class) (cond n (unnegated bs) (b ∷ unnegated bs)) ++ c.class ∷ [])
    go true q e = e
    go false true e = ap (λ l. b.class ∷ l) e
    go false false e = ap (λ l. b.class ∷ l) e

-- ---- one word

module _ (cs : List Declared) (rs : List Rule) (ns ms : List (List ℕ)) (known : Known cs ns) where
  abbrev HoldsAt : Type 0 → Sofar → List (List ℕ) → Contents → Type 0
  HoldsAt Q d ws r = Holds cs ns ms Q d.names d.variables d.used ws r

  -- something besides
  besides_step : {P Q R : Type 0} (d : Sofar) (ws : List (List ℕ)) (r : Contents) → Iff (P × Q) R → Iff (P × HoldsAt Q d ws r) (HoldsAt R d ws r)
  besides_step d ws r i = record {
    to = λ h. record { besides = i.to (h.0, h.1.besides); symbols = h.1.symbols; met = h.1.met; used = h.1.used; tests = h.1.tests; constants = h.1.constants; settings = h.1.settings; classes = h.1.classes; attributes = h.1.attributes; ordinals = h.1.ordinals };
    back = λ h. ((i.back h.besides).0, record { besides = (i.back h.besides).1; symbols = h.symbols; met = h.met; used = h.used; tests = h.tests; constants = h.constants; settings = h.settings; classes = h.classes; attributes = h.attributes; ordinals = h.ordinals });
  }

  -- a test, a constant of a choice, a setting
  test-step : {Q : Type 0} (d : Sofar) (ws : List (List ℕ)) (r : Contents) → Iff ((test_fault d ≡ None) × HoldsAt Q (one_test d) ws r) (HoldsAt Q d ws (testing r))
  test-step d ws r = record {
    to = λ h. record { besides = h.1.besides; symbols = h.1.symbols; met = h.1.met; used = h.1.used; tests = (one-room 512 d.used.tests r.tests).to (h.0, h.1.tests); constants = h.1.constants; settings = h.1.settings; classes = h.1.classes; attributes = h.1.attributes; ordinals = h.1.ordinals };
    back = λ h. (((one-room 512 d.used.tests r.tests).back h.tests).0, record { besides = h.besides; symbols = h.symbols; met = h.met; used = h.used; tests = ((one-room 512 d.used.tests r.tests).back h.tests).1; constants = h.constants; settings = h.settings; classes = h.classes; attributes = h.attributes; ordinals = h.ordinals });
  }

  constant-step : {Q : Type 0} (d : Sofar) (ws : List (List ℕ)) (r : Contents) → Iff ((chosen_fault d ≡ None) × HoldsAt Q (one_constant d) ws r) (HoldsAt Q d ws (choosing r))
  constant-step d ws r = record {
    to = λ h. record { besides = h.1.besides; symbols = h.1.symbols; met = h.1.met; used = h.1.used; tests = h.1.tests; constants = (one-room 256 d.used.constants r.constants).to (h.0, h.1.constants); settings = h.1.settings; classes = h.1.classes; attributes = h.1.attributes; ordinals = h.1.ordinals };
    back = λ h. (((one-room 256 d.used.constants r.constants).back h.constants).0, record { besides = h.besides; symbols = h.symbols; met = h.met; used = h.used; tests = h.tests; constants = ((one-room 256 d.used.constants r.constants).back h.constants).1; settings = h.settings; classes = h.classes; attributes = h.attributes; ordinals = h.ordinals });
  }

  setting-step : {Q : Type 0} (d : Sofar) (ws : List (List ℕ)) (r : Contents) → Iff ((setting_fault d ≡ None) × HoldsAt Q (one_setting d) ws r) (HoldsAt Q d ws (setting r))
  setting-step d ws r = record {
    to = λ h. record { besides = h.1.besides; symbols = h.1.symbols; met = h.1.met; used = h.1.used; tests = h.1.tests; constants = h.1.constants; settings = (one-room 256 d.used.settings r.settings).to (h.0, h.1.settings); classes = h.1.classes; attributes = h.1.attributes; ordinals = h.1.ordinals };
    back = λ h. (((one-room 256 d.used.settings r.settings).back h.settings).0, record { besides = h.besides; symbols = h.symbols; met = h.met; used = h.used; tests = h.tests; constants = h.constants; settings = ((one-room 256 d.used.settings r.settings).back h.settings).1; classes = h.classes; attributes = h.attributes; ordinals = h.ordinals });
  }

  -- a class, an attribute, the number of a condition
  class-step : {Q : Type 0} (d : Sofar) (ws : List (List ℕ)) (r : Contents) (w : List ℕ) → Grows ns d.names → Iff ((undeclared cs d.names w ≡ None) × HoldsAt Q d ws r) (HoldsAt Q d ws (of_class w r))
  class-step d ws r w b = record {
    to = λ h. record { besides = h.1.besides; symbols = h.1.symbols; met = h.1.met; used = h.1.used; tests = h.1.tests; constants = h.1.constants; settings = h.1.settings; classes = (sym (ap is_some (same_class cs ns d.names w known b)) ∙ (no_lack _ wrong_name None h.0).0, h.1.classes); attributes = h.1.attributes; ordinals = h.1.ordinals };
    back = λ h. (cond-true (is_some (class_at cs (number_of d.names w))) None (Some wrong_name) (ap is_some (same_class cs ns d.names w known b) ∙ h.classes.0), record { besides = h.besides; symbols = h.symbols; met = h.met; used = h.used; tests = h.tests; constants = h.constants; settings = h.settings; classes = h.classes.1; attributes = h.attributes; ordinals = h.ordinals });
  }

  same_lacking : (d : Sofar) (c a : List ℕ) (k : Declared) → k ≡ class_named cs ns c → Grows ns d.names → is_some (field_at k (number_of d.names a)) ≡ is_some (field_at (class_named cs ns c) (number_of ns a))
  same_lacking d c a k e b = ap (λ x. is_some (field_at x (number_of d.names a))) e ∙ ap is_some (same_field cs ns d.names c a known b)

  attribute-step : {Q : Type 0} (d : Sofar) (ws : List (List ℕ)) (r : Contents) (c a : List ℕ) (k : Declared) → k ≡ class_named cs ns c → Grows ns d.names → Iff ((lacking k d.names a ≡ None) × HoldsAt Q d ws r) (HoldsAt Q d ws (belonging c a r))
  attribute-step d ws r c a k e b = record {
    to = λ h. record { besides = h.1.besides; symbols = h.1.symbols; met = h.1.met; used = h.1.used; tests = h.1.tests; constants = h.1.constants; settings = h.1.settings; classes = h.1.classes; attributes = (sym (same_lacking d c a k e b) ∙ (no_lack (is_some (field_at k (number_of d.names a))) wrong_name None h.0).0, h.1.attributes); ordinals = h.1.ordinals };
    back = λ h. (cond-true (is_some (field_at k (number_of d.names a))) None (Some wrong_name) (same_lacking d c a k e b ∙ h.attributes.0), record { besides = h.besides; symbols = h.symbols; met = h.met; used = h.used; tests = h.tests; constants = h.constants; settings = h.settings; classes = h.classes; attributes = h.attributes.1; ordinals = h.ordinals });
  }

  ordinal-in : (d : Sofar) (k : ℤ) → length (unnegated d.conditions) ≡ length ms → ordinal_fault d k ≡ None → (1 ≤ ordinal k) × (ordinal k ≤ length ms)
  ordinal-in d k e h =
      let p = and_parts (leb 1 (ordinal k)) (leb (ordinal k) (length (unnegated d.conditions))) (no_lack _ no_such_condition None h).0 in
      (leb-true 1 (ordinal k) p.0, subst (λ n. ordinal k ≤ n) e (leb-true (ordinal k) _ p.1))

  in_ordinal : (d : Sofar) (k : ℤ) → length (unnegated d.conditions) ≡ length ms → (1 ≤ ordinal k) × (ordinal k ≤ length ms) → ordinal_fault d k ≡ None
  in_ordinal d k e h =
      cond-true (names_condition d.conditions (ordinal k)) None (Some no_such_condition)
      (and_from _ _ (le-leb 1 (ordinal k) h.0) (le-leb (ordinal k) _ (subst (λ n. ordinal k ≤ n) (sym e) h.1)))

  ordinal-step : {Q : Type 0} (d : Sofar) (ws : List (List ℕ)) (r : Contents) (k : ℤ) → length (unnegated d.conditions) ≡ length ms → Iff ((ordinal_fault d k ≡ None) × HoldsAt Q d ws r) (HoldsAt Q d ws (naming k r))
  ordinal-step d ws r k e = record {
    to = λ h. record { besides = h.1.besides; symbols = h.1.symbols; met = h.1.met; used = h.1.used; tests = h.1.tests; constants = h.1.constants; settings = h.1.settings; classes = h.1.classes; attributes = h.1.attributes; ordinals = (ordinal-in d k e h.0, h.1.ordinals) };
    back = λ h. (in_ordinal d k e h.ordinals.0, record { besides = h.besides; symbols = h.symbols; met = h.met; used = h.used; tests = h.tests; constants = h.constants; settings = h.settings; classes = h.classes; attributes = h.attributes; ordinals = h.ordinals.1 });
  }

  -- a constant
  value-step : {Q : Type 0} (d : Sofar) (ws : List (List ℕ)) (r : Contents) (c : Constant) → Iff ((value_fault d.names c ≡ None) × HoldsAt Q (with_names d (after_value d.names c)) ws r) (HoldsAt Q d (constant_symbols c ++ ws) r)
  value-step d ws r (symbolic w) = record {
    to = λ h. record { besides = h.1.besides; symbols = ((no_fault (unnameable d.names w) over_limit None h.0).0, h.1.symbols); met = h.1.met; used = h.1.used; tests = h.1.tests; constants = h.1.constants; settings = h.1.settings; classes = h.1.classes; attributes = h.1.attributes; ordinals = h.1.ordinals };
    back = λ h. (cond-false (unnameable d.names w) (Some over_limit) None h.symbols.0, record { besides = h.besides; symbols = h.symbols.1; met = h.met; used = h.used; tests = h.tests; constants = h.constants; settings = h.settings; classes = h.classes; attributes = h.attributes; ordinals = h.ordinals });
  }
  value-step d ws r (numeric n) = record { to = λ h. h.1; back = λ h. (refl, h) }

  -- an operand of a condition
  met-step : {Q : Type 0} (d : Sofar) (ws : List (List ℕ)) (r : Contents) (negated binds : Bool) (w : List ℕ) → Iff ((operand_fault d binds (named w) ≡ None) × HoldsAt Q (after_operand d negated (named w)) ws r) (HoldsAt Q d ws (operand_contents (length d.conditions) negated binds (named w) r))
  met-step d ws r negated binds w = record {
    to = λ h. record { besides = h.1.besides; symbols = h.1.symbols; met = (h.0, h.1.met); used = h.1.used; tests = h.1.tests; constants = h.1.constants; settings = h.1.settings; classes = h.1.classes; attributes = h.1.attributes; ordinals = h.1.ordinals };
    back = λ h. (h.met.0, record { besides = h.besides; symbols = h.symbols; met = h.met.1; used = h.used; tests = h.tests; constants = h.constants; settings = h.settings; classes = h.classes; attributes = h.attributes; ordinals = h.ordinals });
  }

  operand_step : {Q : Type 0} (d : Sofar) (ws : List (List ℕ)) (r : Contents) (n : ℕ) (negated binds : Bool) (o : Operand) → length d.conditions ≡ n → Iff ((operand_fault d binds o ≡ None) × HoldsAt Q (after_operand d negated o) ws r) (HoldsAt Q d (operand_symbols o ++ ws) (operand_contents n negated binds o r))
  operand_step d ws r n negated binds (fixed c) e = value-step d ws r c
  operand_step {Q = Q} d ws r n negated binds (named w) e = subst (λ k. Iff ((operand_fault d binds (named w) ≡ None) × HoldsAt Q (after_operand d negated (named w)) ws r) (HoldsAt Q d ws (operand_contents k negated binds (named w) r))) e (met-step d ws r negated binds w)

  -- a test with an operand alone
  bare_step : {Q : Type 0} (d : Sofar) (ws : List (List ℕ)) (r : Contents) (n : ℕ) (negated : Bool) (o : Operand) → length d.conditions ≡ n → Iff ((or_fault (operand_fault d true o) (test_fault d) ≡ None) × HoldsAt Q (after_operand (one_test d) negated o) ws r) (HoldsAt Q d (operand_symbols o ++ ws) (testing (operand_contents n negated true o r)))
  bare_step d ws r n negated (fixed c) e = second_then (operand_fault d true (fixed c)) (test_fault d) (operand_step (one_test d) ws r n negated true (fixed c) e) (test-step d (operand_symbols (fixed c) ++ ws) (operand_contents n negated true (fixed c) r))
  bare_step d ws r n negated (named w) e = second_then (operand_fault d true (named w)) (test_fault d) (operand_step (one_test d) ws r n negated true (named w) e) (test-step d (operand_symbols (named w) ++ ws) (operand_contents n negated true (named w) r))

  -- the value of a setting, behind which no condition comes
  use_step : {Q : Type 0} (d : Sofar) (ws : List (List ℕ)) (r : Contents) (w : List ℕ) → r.occurrences ≡ [] → Iff ((given_fault d (named w) ≡ None) × HoldsAt Q d ws r) (HoldsAt Q d ws (valuing w r))
  use_step d ws r w e = record {
    to = λ h. record { besides = h.1.besides; symbols = h.1.symbols; met = h.1.met; used = (subst (λ os. Usable (met_all d.variables os) w) (sym e) h.0, h.1.used); tests = h.1.tests; constants = h.1.constants; settings = h.1.settings; classes = h.1.classes; attributes = h.1.attributes; ordinals = h.1.ordinals };
    back = λ h. (subst (λ os. Usable (met_all d.variables os) w) e h.used.0, record { besides = h.besides; symbols = h.symbols; met = h.met; used = h.used.1; tests = h.tests; constants = h.constants; settings = h.settings; classes = h.classes; attributes = h.attributes; ordinals = h.ordinals });
  }

  given-step : {Q : Type 0} (d : Sofar) (ws : List (List ℕ)) (r : Contents) (v : Operand) → r.occurrences ≡ [] → Iff ((or_fault (given_fault d v) (setting_fault d) ≡ None) × HoldsAt Q (one_setting (after_given d v)) ws r) (HoldsAt Q d (operand_symbols v ++ ws) (setting (value_contents v r)))
  given-step d ws r (fixed c) e = second_then (given_fault d (fixed c)) (setting_fault d) (value-step (one_setting d) ws r c) (setting-step d (operand_symbols (fixed c) ++ ws) r)
  given-step d ws r (named w) e = second_then (given_fault d (named w)) (setting_fault d) (use_step (one_setting d) ws r w e) (setting-step d ws (valuing w r))

  -- ---- rows of words

  -- nothing is wrong with the words of a script
  abbrev Clean : Script Asked → Type 0
  Clean x = Faultless (judged_in x)

  -- symbols in two ways to group them
  regroup : {A Q : Type 0} (d : Sofar) (a b ws : List (List ℕ)) (r : Contents) → Iff A (HoldsAt Q d (a ++ (b ++ ws)) r) → Iff A (HoldsAt Q d ((a ++ b) ++ ws) r)
  regroup {A = A} {Q = Q} d a b ws r i = subst (λ s. Iff A (HoldsAt Q d s r)) (sym (append_assoc a b ws)) i

  -- a choice
  choice-holds : (xs : List Chosen) (d : Sofar) (vs : List Value) (go : Sofar → List Value → Script Asked) (Q : Type 0) (ws : List (List ℕ)) (r : Contents) (n m : ℕ) (ks : List Declared) → Stage ns n ks m d → ((e : Sofar) (us : List Value) → Stage ns n ks m e → Iff (Clean (go e us)) (HoldsAt Q e ws r)) → Iff (Clean (choice_script cs rs d vs xs go)) (HoldsAt Q d (chosen_symbols xs ++ ws) (choice_contents xs r))
  choice-holds [] d vs go Q ws r n m ks s after = free (after d vs s)
  choice-holds (x ∷ xs) d vs go Q ws r n m ks s after =
      let c : Constant = constant_in x.word in
      let e : Sofar = one_constant (with_names d (after_value d.names c)) in
      let t : Stage ns n ks m e = record { conditions = s.conditions; classes = s.classes; actions = s.actions; names = behind_value ns d.names c s.names } in
      regroup d (constant_symbols c) (chosen_symbols xs) ws (choosing (choice_contents xs r))
      (step (choice-holds xs e _ go Q ws r n m ks t after)
      (second_then (value_fault d.names c) (chosen_fault d) (value-step (one_constant d) (chosen_symbols xs ++ ws) (choice_contents xs r) c) (constant-step d (constant_symbols c ++ (chosen_symbols xs ++ ws)) (choice_contents xs r))))

  -- after an operand
  stage_operand : (d : Sofar) (n m : ℕ) (ks : List Declared) (negated : Bool) (o : Operand) → Stage ns n ks m d → Stage ns n ks m (after_operand (one_test d) negated o)
  stage_operand d n m ks negated (fixed c) s = record { conditions = s.conditions; classes = s.classes; actions = s.actions; names = behind_value ns d.names c s.names }
  stage_operand d n m ks negated (named w) s = record { conditions = s.conditions; classes = s.classes; actions = s.actions; names = s.names }

  -- a test
  test-holds : (t : TestForm) (d : Sofar) (negated : Bool) (k : Declared) (ts : List FieldTest) (f : ℕ) (go : Sofar → Condition → Script Asked) (Q : Type 0) (ws : List (List ℕ)) (r : Contents) (n m : ℕ) (ks : List Declared) → Stage ns n ks m d → ((e : Sofar) (us : List FieldTest) → Stage ns n ks m e → Iff (Clean (go e (made negated k us))) (HoldsAt Q e ws r)) → Iff (Clean (test_script cs rs d (made negated k ts) f t go)) (HoldsAt Q d (test_symbols t ++ ws) (testing (test_contents n negated t r)))
  test-holds (bare o) d negated k ts f go Q ws r n m ks s after =
      step (after _ _ (stage_operand d n m ks negated o s)) (bare_step d ws r n negated o s.conditions)
  test-holds (under p o h) d negated k ts f go Q ws r n m ks s after =
      step (step (after _ _ (stage_operand d n m ks negated o s)) (operand_step (one_test d) ws r n negated (binding p) o s.conditions))
      (test-step d (operand_symbols o ++ ws) (operand_contents n negated (binding p) o r))
  test-holds (one_of x xs) d negated k ts f go Q ws r n m ks s after =
      let t : Stage ns n ks m (one_test d) = record { conditions = s.conditions; classes = s.classes; actions = s.actions; names = s.names } in
      step (choice-holds (x ∷ xs) (one_test d) [] _ Q ws r n m ks t (λ e us z. after e _ z)) (test-step d (chosen_symbols (x ∷ xs) ++ ws) (choice_contents (x ∷ xs) r))

  -- the tests of a condition of the class c
  pairs-holds : (ps : List PairForm) (d : Sofar) (negated : Bool) (k : Declared) (ts : List FieldTest) (go : Sofar → Script Asked) (Q : Type 0) (ws : List (List ℕ)) (r : Contents) (n m : ℕ) (ks : List Declared) (c : List ℕ) → k ≡ class_named cs ns c → Stage ns n ks m d → ((e : Sofar) (us : List FieldTest) → Stage ns n ks m e → Iff (Clean (go (with_condition e (made negated k us)))) (HoldsAt Q e ws r)) → Iff (Clean (pairs_script cs rs d (made negated k ts) ps go)) (HoldsAt Q d (pairs_symbols ps ++ ws) (pairs_contents n negated c ps r))
  pairs-holds [] d negated k ts go Q ws r n m ks c q s after = free (after d ts s)
  pairs-holds (p ∷ ps) d negated k ts go Q ws r n m ks c q s after =
      regroup d (test_symbols p.test) (pairs_symbols ps) ws (pairs_contents n negated c (p ∷ ps) r)
      (free
      (step
      (test-holds p.test d negated k ts (field_named k d.names p.attribute) (λ e b. pairs_script cs rs e b ps go) Q (pairs_symbols ps ++ ws) (pairs_contents n negated c ps r) n m ks s
      (λ e us z. pairs-holds ps e negated k us go Q ws r n m ks c q z after))
      (attribute-step d (test_symbols p.test ++ (pairs_symbols ps ++ ws)) (testing (test_contents n negated p.test (pairs_contents n negated c ps r))) c p.attribute k q s.names)))

  -- one condition more
  stage_more : (e : Sofar) (negated : Bool) (k j : Declared) (us : List FieldTest) (n m : ℕ) (ks : List Declared) → k ≡ j → Stage ns n ks m e → Stage ns (n + 1) (cond negated ks (ks ++ j ∷ [])) m (with_condition e (made negated k us))
  stage_more e negated k j us n m ks q s = record {
    conditions = length_push e.conditions (made negated k us) ∙ ap (λ i. i + 1) s.conditions;
    classes = classes-more e.conditions (made negated k us) ∙ ap (λ l. cond negated l (l ++ k ∷ [])) s.classes ∙ ap (λ i. cond negated ks (ks ++ i ∷ [])) q;
    actions = s.actions;
    names = s.names;
  }

  -- a condition from its class on
  pattern_holds : (p : Pattern) (d : Sofar) (negated : Bool) (go : Sofar → Script Asked) (Q : Type 0) (ws : List (List ℕ)) (r : Contents) (n m : ℕ) (ks : List Declared) → Stage ns n ks m d → ((e : Sofar) → Stage ns (n + 1) (cond negated ks (ks ++ class_named cs ns p.class ∷ [])) m e → Iff (Clean (go e)) (HoldsAt Q e ws r)) → Iff (Clean (pattern_script cs rs d negated p go)) (HoldsAt Q d (pairs_symbols p.pairs ++ ws) (pattern_contents n negated p r))
  pattern_holds p d negated go Q ws r n m ks s after =
      let k : Declared = class_named cs d.names p.class in
      let q : k ≡ class_named cs ns p.class = ap (λ o. unwrap_or o (new_class 0)) (same_class cs ns d.names p.class known s.names) in
      let t : Stage ns n ks m (one_test d) = record { conditions = s.conditions; classes = s.classes; actions = s.actions; names = s.names } in
      let inner : Contents = pairs_contents n negated p.class p.pairs r in
      step
      (pairs-holds p.pairs (one_test d) negated k [] go Q ws r n m ks p.class q t
      (λ e us z. after (with_condition e (made negated k us)) (stage_more e negated k (class_named cs ns p.class) us n m ks q z)))
      (first_then (undeclared cs d.names p.class) (test_fault d) (test-step d (pairs_symbols p.pairs ++ ws) inner) (class-step d (pairs_symbols p.pairs ++ ws) (testing inner) p.class s.names))

  -- ---- actions

  -- no variable of a condition stands in an action
  settings-apart : (c : List ℕ) (ss : List SettingForm) (r : Contents) → (settings_contents c ss r).occurrences ≡ r.occurrences
  settings-apart c [] r = refl
  settings-apart c (s ∷ ss) r = value-apart s.value ∙ settings-apart c ss r
    where
      value-apart : (v : Operand) → (value_contents v (settings_contents c ss r)).occurrences ≡ (settings_contents c ss r).occurrences
      value-apart (fixed x) = refl
      value-apart (named w) = refl

  actions-apart : (as' : List ActionForm) → (actions_contents ms as' nothing).occurrences ≡ []
  actions-apart [] = refl
  actions-apart (making c ss ∷ as') = settings-apart c ss (actions_contents ms as' nothing) ∙ actions-apart as'
  actions-apart (modifying k ss ∷ as') = settings-apart (get_or ms (ordinal k - 1) []) ss (actions_contents ms as' nothing) ∙ actions-apart as'
  actions-apart (removing k ∷ as') = actions-apart as'
  actions-apart (halting ∷ as') = actions-apart as'

  -- after a value
  stage_given : (d : Sofar) (n m : ℕ) (ks : List Declared) (v : Operand) → Stage ns n ks m d → Stage ns n ks m (one_setting (after_given d v))
  stage_given d n m ks (fixed c) s = record { conditions = s.conditions; classes = s.classes; actions = s.actions; names = behind_value ns d.names c s.names }
  stage_given d n m ks (named w) s = record { conditions = s.conditions; classes = s.classes; actions = s.actions; names = s.names }

  -- the settings of an action on the class c
  settings-holds : (ss : List SettingForm) (d : Sofar) (a : Acting) (done : List Setting) (go : Sofar → Script Asked) (Q : Type 0) (ws : List (List ℕ)) (r : Contents) (n m : ℕ) (ks : List Declared) (c : List ℕ) → acting_class a ≡ class_named cs ns c → r.occurrences ≡ [] → Stage ns n ks m d → ((e : Sofar) → Stage ns n ks (m + 1) e → Iff (Clean (go e)) (HoldsAt Q e ws r)) → Iff (Clean (settings_script cs rs d a done ss go)) (HoldsAt Q d (settings_symbols ss ++ ws) (settings_contents c ss r))
  settings-holds [] d a done go Q ws r n m ks c q z s after =
      free (after _ (record { conditions = s.conditions; classes = s.classes; actions = length_push d.actions _ ∙ ap (λ i. i + 1) s.actions; names = s.names }))
  settings-holds (x ∷ xs) d a done go Q ws r n m ks c q z s after =
      regroup d (operand_symbols x.value) (settings_symbols xs) ws (settings_contents c (x ∷ xs) r)
      (free
      (step
      (step
      (settings-holds xs (one_setting (after_given d x.value)) a _ go Q ws r n m ks c q z (stage_given d n m ks x.value s) after)
      (given-step d (settings_symbols xs ++ ws) (settings_contents c xs r) x.value (settings-apart c xs r ∙ z)))
      (attribute-step d (operand_symbols x.value ++ (settings_symbols xs ++ ws)) (setting (value_contents x.value (settings_contents c xs r))) c x.attribute (acting_class a) q s.names)))

  -- the unnegated conditions are of the classes that the patterns name
  module _ (n : ℕ) (ks : List Declared) (all : ks ≡ map (class_named cs ns) ms) where
    counted : (m : ℕ) (d : Sofar) → Stage ns n ks m d → length (unnegated d.conditions) ≡ length ms
    counted m d s = sym (length-map (unnegated d.conditions) (λ c. c.class)) ∙ ap length (s.classes ∙ all) ∙ length-map ms (class_named cs ns)

    modified : (m : ℕ) (d : Sofar) (k : ℤ) → Stage ns n ks m d → (1 ≤ ordinal k) × (ordinal k ≤ length ms) → condition_class d.conditions (ordinal k) ≡ class_named cs ns (get_or ms (ordinal k - 1) [])
    modified m d k s h =
        let long = counted m d s in
        let none : Condition = record { negated = false; class = new_class 0; tests = [] } in
        let i : ordinal k - 1 < length (unnegated d.conditions) = omega (arith, h.0, h.1) in
        let j : ordinal k - 1 < length ms = omega (arith, h.0, h.1) in
        sym (get_or-map (λ c. c.class) (unnegated d.conditions) (ordinal k - 1) none (new_class 0) i)
        ∙ ap (λ l. get_or l (ordinal k - 1) (new_class 0)) (s.classes ∙ all)
        ∙ get_or-map (class_named cs ns) ms (ordinal k - 1) [] (new_class 0) j

    -- an action
    action_holds : (a : ActionForm) (d : Sofar) (go : Sofar → Script Asked) (Q : Type 0) (ws : List (List ℕ)) (r : Contents) (m : ℕ) → r.occurrences ≡ [] → Stage ns n ks m d → ((e : Sofar) → Stage ns n ks (m + 1) e → Iff (Clean (go e)) (HoldsAt Q e ws r)) → Iff (Clean (action_script cs rs d a go)) (HoldsAt Q d (action_symbols a ++ ws) (action_contents ms a r))
    action_holds (making c ss) d go Q ws r m z s after =
        let k : Declared = class_named cs d.names c in
        let q : k ≡ class_named cs ns c = ap (λ o. unwrap_or o (new_class 0)) (same_class cs ns d.names c known s.names) in
        free (step (settings-holds ss d (on_make k) [] go Q ws r n m ks c q z s after) (class-step d (settings_symbols ss ++ ws) (settings_contents c ss r) c s.names))
    action_holds (modifying k ss) d go Q ws r m z s after =
        let c : List ℕ = get_or ms (ordinal k - 1) [] in
        free
        (step_under
        (λ h. settings-holds ss d (on_modify (ordinal k) (condition_class d.conditions (ordinal k))) [] go Q ws r n m ks c (modified m d k s (ordinal-in d k (counted m d s) h)) z s after)
        (ordinal-step d (settings_symbols ss ++ ws) (settings_contents c ss r) k (counted m d s)))
    action_holds (removing k) d go Q ws r m z s after =
        free
        (step
        (free (after _ (record { conditions = s.conditions; classes = s.classes; actions = length_push d.actions _ ∙ ap (λ i. i + 1) s.actions; names = s.names })))
        (ordinal-step d ws r k (counted m d s)))
    action_holds halting d go Q ws r m z s after =
        free (free (after _ (record { conditions = s.conditions; classes = s.classes; actions = length_push d.actions _ ∙ ap (λ i. i + 1) s.actions; names = s.names })))

    actions-holds : (as' : List ActionForm) (d : Sofar) (m : ℕ) → Stage ns n ks m d → Iff (Clean (actions_script cs rs d as')) (HoldsAt (Room 8 m (length as')) d (actions_symbols as') (actions_contents ms as' nothing))
    actions-holds [] d m s = record {
      to = λ h. record { besides = λ j l. absurd (omega arith); symbols = tt; met = tt; used = tt; tests = λ j l. absurd (omega arith); constants = λ j l. absurd (omega arith); settings = λ j l. absurd (omega arith); classes = tt; attributes = tt; ordinals = tt };
      back = λ h. (refl, tt);
    }
    actions-holds (a ∷ as') d m s =
        step (action_holds a d (λ e. actions_script cs rs e as') (Room 8 (m + 1) (length as')) (actions_symbols as') (actions_contents ms as' nothing) m (actions-apart as') s (λ e t. actions-holds as' e (m + 1) t))
        (besides_step d (actions_symbols (a ∷ as')) (actions_contents ms (a ∷ as') nothing) (acted s.actions))
      where
        acted : length d.actions ≡ m → Iff ((action_fault d ≡ None) × Room 8 (m + 1) (length as')) (Room 8 m (length (a ∷ as')))
        acted e = record {
          to = λ h j l. more_room 8 m (length as') (subst (λ i. i < 8) e (room 8 (length d.actions) h.0)) h.1 j (omega arith);
          back = λ h. (has_room 8 (length d.actions) (let l = h 0 (omega arith) in omega arith), λ j l. let x = h (j + 1) (omega arith) in omega arith);
        }

  -- ---- conditions

  -- room for more conditions, where there are n, for more unnegated ones, where there are u, and for all actions
  abbrev Rooms : ℕ → ℕ → List ConditionForm → List ActionForm → Type 0
  Rooms n u ps as' = Room 8 n (length ps) × Room 6 u (length (unnegated_classes ps)) × Room 8 0 (length as')

  -- one more, unnegated or negated
  opened : (p : Pattern) (ps : List ConditionForm) (as' : List ActionForm) (d : Sofar) (n : ℕ) (ks : List Declared) (k : Declared) → Stage ns n ks 0 d → Iff ((condition_fault d ≡ None) × Rooms (n + 1) (length (ks ++ k ∷ [])) ps as') (Rooms n (length ks) (positive p ∷ ps) as')
  opened p ps as' d n ks k s = record {
    to = λ h.
        let q = or_parts (leb 8 (length d.conditions)) (leb 6 (length (unnegated d.conditions))) (no_fault _ over_limit None h.0).0 in
        let a = leb-false 8 (length d.conditions) q.0 in
        let b = leb-false 6 (length (unnegated d.conditions)) q.1 in (
          λ j l. more_room 8 n (length ps) (omega (arith, s.conditions)) h.1.0 j (omega arith),
          λ j l. more_room 6 (length ks) (length (unnegated_classes ps)) (omega (arith, long)) (λ i x. let y = h.1.1 i x in omega (arith, more)) j (omega arith),
          h.1.2,
        );
    back = λ h. (
      cond-false _ (Some over_limit) None
          (or_from (leb 8 (length d.conditions)) (leb 6 (length (unnegated d.conditions))) (lt-leb 8 _ (let x = h.0 0 (omega arith) in omega (arith, s.conditions))) (lt-leb 6 _ (let x = h.1 0 (omega arith) in omega (arith, long)))),
      (λ j l. let x = h.0 (j + 1) (omega arith) in omega arith, λ j l. let x = h.1 (j + 1) (omega arith) in omega (arith, more), h.2),
    );
  }
    where
      long : length (unnegated d.conditions) ≡ length ks
      long = sym (length-map (unnegated d.conditions) (λ c. c.class)) ∙ ap length s.classes

      more : length (ks ++ k ∷ []) ≡ length ks + 1
      more = length_push ks k

  negated : (p : Pattern) (ps : List ConditionForm) (as' : List ActionForm) (d : Sofar) (n : ℕ) (ks : List Declared) → Stage ns n ks 0 d → Iff ((negated_fault d ≡ None) × Rooms (n + 1) (length ks) ps as') (Rooms n (length ks) (negative p ∷ ps) as')
  negated p ps as' d n ks s = record {
    to = λ h.
        let a = room 8 (length d.conditions) h.0 in
        (λ j l. more_room 8 n (length ps) (omega (arith, s.conditions)) h.1.0 j (omega arith), h.1.1, h.1.2);
    back = λ h. (has_room 8 (length d.conditions) (let x = h.0 0 (omega arith) in omega (arith, s.conditions)), (λ j l. let x = h.0 (j + 1) (omega arith) in omega arith, h.1, h.2));
  }

  conditions-holds : (ps : List ConditionForm) (as' : List ActionForm) (d : Sofar) (n : ℕ) (ks : List Declared) → Stage ns n ks 0 d → ks ++ map (class_named cs ns) (unnegated_classes ps) ≡ map (class_named cs ns) ms → Iff (Clean (conditions_script cs rs d ps as')) (HoldsAt (Rooms n (length ks) ps as') d (conditions_symbols ps ++ actions_symbols as') (conditions_contents n ps (actions_contents ms as' nothing)))
  conditions-holds [] as' d n ks s e =
      step (actions-holds n ks (sym (append-nil ks) ∙ e) as' d 0 s)
      (besides_step d (actions_symbols as') (actions_contents ms as' nothing) (record { to = λ h. (λ j l. absurd (omega arith), λ j l. absurd (omega arith), h.1); back = λ h. (refl, h.2) }))
  conditions-holds (positive p ∷ ps) as' d n ks s e =
      let k : Declared = class_named cs ns p.class in
      let rest : Contents = conditions_contents (n + 1) ps (actions_contents ms as' nothing) in
      regroup d (pairs_symbols p.pairs) (conditions_symbols ps) (actions_symbols as') (pattern_contents n false p rest)
      (step
      (pattern_holds p d false (λ x. conditions_script cs rs x ps as') (Rooms (n + 1) (length (ks ++ k ∷ [])) ps as') (conditions_symbols ps ++ actions_symbols as') rest n 0 ks s
      (λ x t. conditions-holds ps as' x (n + 1) (ks ++ k ∷ []) t (append_assoc ks (k ∷ []) (map (class_named cs ns) (unnegated_classes ps)) ∙ e)))
      (besides_step d (pairs_symbols p.pairs ++ (conditions_symbols ps ++ actions_symbols as')) (pattern_contents n false p rest) (opened p ps as' d n ks k s)))
  conditions-holds (negative p ∷ ps) as' d n ks s e =
      let rest : Contents = conditions_contents (n + 1) ps (actions_contents ms as' nothing) in
      regroup d (pairs_symbols p.pairs) (conditions_symbols ps) (actions_symbols as') (pattern_contents n true p rest)
      (step
      (free
      (pattern_holds p d true (λ x. conditions_script cs rs x ps as') (Rooms (n + 1) (length ks) ps as') (conditions_symbols ps ++ actions_symbols as') rest n 0 ks s
      (λ x t. conditions-holds ps as' x (n + 1) ks t e)))
      (besides_step d (pairs_symbols p.pairs ++ (conditions_symbols ps ++ actions_symbols as')) (pattern_contents n true p rest) (negated p ps as' d n ks s)))

-- ---- the whole

-- what is asked for besides the name of a production
abbrev pub Body : List Declared → List Rule → List (List ℕ) → ProductionForm → Type 0
Body cs rs ns f =
    Holds cs ns (matched f) (Room 8 1 (length f.others) × Room 6 1 (length (unnegated_classes f.others)) × Room 8 0 (length f.actions))
    (after_intern ns f.name) [] (size_of_all rs) (pairs_symbols f.first.pairs ++ (conditions_symbols f.others ++ actions_symbols f.actions)) (contents f)

pub production_holds : (cs : List Declared) (rs : List Rule) (ns : List (List ℕ)) (f : ProductionForm) → Known cs ns → Iff (Faultless (judged_in (production_script cs rs ns f))) ((name_fault rs ns f.name ≡ None) × Body cs rs ns f)
production_holds cs rs ns f known =
    let k : Declared = class_named cs ns f.first.class in
    let rest : Contents = conditions_contents 1 f.others (actions_contents (matched f) f.actions nothing) in
    let start : Stage ns 0 [] 0 (begun rs ns f.name) = record { conditions = refl; classes = refl; actions = refl; names = behind_one ns ns f.name (behind_none ns) } in
    free
    (free
    (step
    (free
    (pattern_holds cs rs ns (matched f) known f.first (begun rs ns f.name) false (λ e. conditions_script cs rs e f.others f.actions)
    (Room 8 1 (length f.others) × Room 6 1 (length (unnegated_classes f.others)) × Room 8 0 (length f.actions))
    (conditions_symbols f.others ++ actions_symbols f.actions)
    rest
    0
    0
    []
    start
    (λ e t. conditions-holds cs rs ns (matched f) known f.others f.actions e 1 (k ∷ []) t refl)))
    (record { to = λ h. h; back = λ h. h })))
