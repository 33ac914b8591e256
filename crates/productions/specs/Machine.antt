-- Reading a production word by word: what the code computes. No public contract cites this; the proofs join it to the forms.
-- Assumes nothing.
use Rattle.std.specs.Prelude.{ℕ, Bool, true, false, cond, List, [], ◌∷◌, ◌++◌, ℤ, codes}
use Rattle.std.specs.Str.{bytes_eq}
use Rattle.words.specs.Kinds.{Kind, open', close', hat, minus, arrow, open_choice, close_choice, test, number, variable, symbol, illegal}
use Rattle.words.specs.declared.token.Predicate.{Predicate}
use Rattle.values.specs.declared.value.Value.{Value}
use Rattle.rules.specs.Attributes.{Declared}
use Rattle.rules.specs.Fitness.{condition_class}
use Rattle.rules.specs.Rules.{plain, compared, choice, Condition, Setting, removes, halts, Rule}
use Rattle.languages.specs.declared.refusal.Cause.TheVariants.{UnexpectedWord}
use Rattle.languages.specs.Scripts.{or_fault}
use Rattle.languages.specs.Naming.{Constant, symbolic, numeric, class_named, field_named, value_of, after_value, undeclared, lacking, value_fault}
use Rattle.languages.specs.Machines.{Step, onward, whole, fails, unless, refuse, on_open, on_close, on_hat, on_minus, on_arrow, on_open_choice, on_close_choice, on_test, on_number, on_variable, on_symbol}
use Rattle.productions.specs.Forms.{Operand, fixed, named, ordering, constant_in}
use Rattle.productions.specs.Sofar.{Sofar, with_names, with_condition, with_action, one_test, one_constant, one_setting, with_test, rule_read, negated_fault, condition_fault, action_fault, test_fault, chosen_fault, setting_fault, name_fault, ordinal, ordinal_fault, term_for, operand_fault, after_operand, given_fault, after_given, binding, Acting, on_make, on_modify, acting_class, action_with}
use Rattle.productions.specs.Spelling.{Asked, begun}

-- what was read of a production, by what may come next
pub data State : Type 0 where
  at_opening at_head at_name : List (List ℕ) → State
  at_first at_conditions at_negated : Sofar → State
  at_class : Sofar → Bool → State
  at_pairs at_attribute : Sofar → Condition → State
  at_test at_choice : Sofar → Condition → ℕ → State
  at_operand : Sofar → Condition → ℕ → Predicate → State
  at_choices : Sofar → Condition → ℕ → List Value → State
  at_actions at_action at_make at_modify at_remove at_closing : Sofar → State
  at_settings at_setting : Sofar → Acting → List Setting → State
  at_value : Sofar → Acting → List Setting → ℕ → State

abbrev pub Move : Type 0
Move = Step State Asked

-- a word that cannot continue the form
abbrev pub unexpected : Move
unexpected = fails UnexpectedWord

-- a word of a choice, or else another word
abbrev pub on_chosen : (Kind → Move) → (Kind → Move) → Kind → Move
on_chosen x f open' = f open'
on_chosen x f close' = f close'
on_chosen x f hat = f hat
on_chosen x f minus = x minus
on_chosen x f arrow = x arrow
on_chosen x f open_choice = x open_choice
on_chosen x f close_choice = f close_choice
on_chosen x f (test p) = x (test p)
on_chosen x f (number n w) = x (number n w)
on_chosen x f (variable w) = x (variable w)
on_chosen x f (symbol w) = x (symbol w)
on_chosen x f (illegal w) = f (illegal w)

-- a constant or a variable, or else another word
abbrev pub on_operand : (Operand → Move) → (Kind → Move) → Kind → Move
on_operand x f k = on_number (λ n. x (fixed (numeric n))) (on_symbol (λ w. x (fixed (symbolic w))) (on_variable (λ w. x (named w)) f)) k

-- the head of a production
abbrev pub head_word : List (List ℕ) → List ℕ → Move
head_word ns w = cond (bytes_eq w (codes "p")) (onward (at_name ns)) unexpected

-- the head of an action
abbrev pub action_word : Sofar → List ℕ → Move
action_word d w =
    cond (bytes_eq w (codes "make")) (onward (at_make d))
    (cond (bytes_eq w (codes "modify")) (onward (at_modify d))
    (cond (bytes_eq w (codes "remove")) (onward (at_remove d))
    (cond (bytes_eq w (codes "halt")) (onward (at_closing (with_action d halts))) unexpected)))

-- an operand as a test of its own
abbrev pub bare_word : Sofar → Condition → ℕ → Operand → Move
bare_word d c f o =
    unless (or_fault (operand_fault d true o) (test_fault d)) (onward (at_pairs (after_operand (one_test d) c.negated o) (with_test c f (plain (term_for d o)))))

-- a predicate or a choice as a test, or else another word
abbrev pub test_word : Sofar → Condition → ℕ → Kind → Move
test_word d c f k =
    on_test (λ p. unless (test_fault d) (onward (at_operand (one_test d) c f p)))
    (on_open_choice (unless (test_fault d) (onward (at_choice (one_test d) c f))) refuse) k

-- an operand that the predicate admits
abbrev pub compared_word : Sofar → Condition → ℕ → Predicate → Operand → Move
compared_word d c f p o =
    unless (operand_fault d (binding p) o) (onward (at_pairs (after_operand d c.negated o) (with_test c f (compared p (term_for d o)))))

-- a symbol after a predicate
abbrev pub compared_symbol : Sofar → Condition → ℕ → Predicate → List ℕ → Move
compared_symbol d c f p w = cond (ordering p) unexpected (compared_word d c f p (fixed (symbolic w)))

-- a constant of a choice
abbrev pub chosen_constant : Sofar → Condition → ℕ → List Value → Constant → Move
chosen_constant d c f vs x =
    unless (or_fault (value_fault d.names x) (chosen_fault d))
    (onward (at_choices (one_constant (with_names d (after_value d.names x))) c f (vs ++ value_of d.names x ∷ [])))

-- a word of a choice
abbrev pub chosen_word : Sofar → Condition → ℕ → List Value → Kind → Move
chosen_word d c f vs k = chosen_constant d c f vs (constant_in k)

-- the value of a setting
abbrev pub value_word : Sofar → Acting → List Setting → ℕ → Operand → Move
value_word d a done f v =
    unless (or_fault (given_fault d v) (setting_fault d)) (onward (at_settings (one_setting (after_given d v)) a (done ++ record { field = f; value = term_for d v } ∷ [])))

-- the attribute of a test, and of a setting
abbrev pub attribute_word : Sofar → Condition → List ℕ → Move
attribute_word d c w = unless (lacking c.class d.names w) (onward (at_test d c (field_named c.class d.names w)))

abbrev pub setting_word : Sofar → Acting → List Setting → List ℕ → Move
setting_word d a done w = unless (lacking (acting_class a) d.names w) (onward (at_value d a done (field_named (acting_class a) d.names w)))

-- the condition that a modify or a remove names
abbrev pub modify_word : Sofar → ℤ → Move
modify_word d k = unless (ordinal_fault d k) (onward (at_settings d (on_modify (ordinal k) (condition_class d.conditions (ordinal k))) []))

abbrev pub remove_word : Sofar → ℤ → Move
remove_word d k = unless (ordinal_fault d k) (onward (at_closing (with_action d (removes (ordinal k)))))

-- the name of a production, where the rules entered before are rs
abbrev pub name_word : List Rule → List (List ℕ) → List ℕ → Move
name_word rs ns w = unless (name_fault rs ns w) (onward (at_first (begun rs ns w)))

-- the class of a condition, which counts as a test, where the declared classes are cs
abbrev pub class_word : List Declared → Sofar → Bool → List ℕ → Move
class_word cs d negated w =
    unless (or_fault (undeclared cs d.names w) (test_fault d))
    (onward (at_pairs (one_test d) (record { negated = negated; class = class_named cs d.names w; tests = [] })))

-- the class of an element to make
abbrev pub make_word : List Declared → Sofar → List ℕ → Move
make_word cs d w = unless (undeclared cs d.names w) (onward (at_settings d (on_make (class_named cs d.names w)) []))

module _ (cs : List Declared) (rs : List Rule) where
  -- what a word does in a state
  abbrev pub turned : State → Kind → Move
  turned (at_opening ns) k = on_open (onward (at_head ns)) refuse k
  turned (at_head ns) k = on_symbol (head_word ns) refuse k
  turned (at_name ns) k = on_symbol (name_word rs ns) refuse k
  turned (at_first d) k = on_open (onward (at_class d false)) refuse k
  turned (at_conditions d) k =
      on_open (unless (condition_fault d) (onward (at_class d false)))
      (on_minus (unless (negated_fault d) (onward (at_negated d)))
      (on_arrow (onward (at_actions d)) refuse)) k
  turned (at_negated d) k = on_open (onward (at_class d true)) refuse k
  turned (at_class d negated) k = on_symbol (class_word cs d negated) refuse k
  turned (at_pairs d c) k = on_hat (onward (at_attribute d c)) (on_close (onward (at_conditions (with_condition d c))) refuse) k
  turned (at_attribute d c) k = on_symbol (attribute_word d c) refuse k
  turned (at_test d c f) k = on_operand (bare_word d c f) (test_word d c f) k
  turned (at_choice d c f) k = on_chosen (chosen_word d c f []) refuse k
  turned (at_operand d c f p) k =
      on_number (λ n. compared_word d c f p (fixed (numeric n)))
      (on_symbol (compared_symbol d c f p)
      (on_variable (λ w. compared_word d c f p (named w)) refuse)) k
  turned (at_choices d c f vs) k = on_close_choice (onward (at_pairs d (with_test c f (choice vs)))) (on_chosen (chosen_word d c f vs) refuse) k
  turned (at_actions d) k = on_open (unless (action_fault d) (onward (at_action d))) (on_close (whole (rule_read d, d.names)) refuse) k
  turned (at_action d) k = on_symbol (action_word d) refuse k
  turned (at_make d) k = on_symbol (make_word cs d) refuse k
  turned (at_modify d) k = on_number (modify_word d) refuse k
  turned (at_remove d) k = on_number (remove_word d) refuse k
  turned (at_closing d) k = on_close (onward (at_actions d)) refuse k
  turned (at_settings d a done) k = on_hat (onward (at_setting d a done)) (on_close (onward (at_actions (with_action d (action_with a done)))) refuse) k
  turned (at_setting d a done) k = on_symbol (setting_word d a done) refuse k
  turned (at_value d a done f) k = on_operand (value_word d a done f) refuse k
