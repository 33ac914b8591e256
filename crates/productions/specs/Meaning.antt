-- What the values of the reader of productions mean. Assumes nothing.
use Rattle.std.specs.Prelude.{◌≡◌, ℕ, Bool, List, map, Some, None, Ok, Err, vec_items, Option, Result, slice_index_or}
use Rattle.words.specs.Kinds.{Kind}
use Rattle.values.specs.Spelling.{spelling}
use Rattle.rules.specs.declared.place.Place.{Place}
use Rattle.languages.specs.declared.refusal.Cause.{Cause}
use Rattle.languages.specs.Refusals.{Fault, cause_of}
use Rattle.rules.specs.Attributes.{Declared, declared}
use Rattle.rules.specs.Rules.{Rule, Setting as SettingMeant, setting_of, condition_of, conditions_of, actions_of}
use Rattle.rules.specs.Sizes.{size_meant}
use Rattle.rules.specs.declared.action.Setting.{Setting as RustSetting}
use Rattle.languages.specs.Machines.{onward, whole, fails}
use Rattle.languages.specs.Naming.{Grows}
use Rattle.languages.specs.Senses.{sense}
use Rattle.productions.specs.declared.draft.Acting.{Acting as RustActing}
use Rattle.productions.specs.declared.draft.Acting.TheVariants.{Make, Modify}
use Rattle.productions.specs.declared.draft.Draft.{Draft}
use Rattle.productions.specs.declared.state.State.{State as RustState}
use Rattle.productions.specs.declared.state.State.TheVariants.{Opening, Head, Name, First, Conditions, Negated, Class, Pairs, Attribute, Test, Operand, Choice, Choices, Actions, Action, Make as StateMake, Modify as StateModify, Remove, Closing, Settings, Setting, Value}
use Rattle.productions.specs.declared.state.Step.{Step as Turn}
use Rattle.productions.specs.declared.state.Step.TheVariants.{Onward, Whole}
use Rattle.productions.specs.declared.state.Halt.{Halt}
use Rattle.productions.specs.declared.state.Halt.TheVariants.{Refused, NoMemory}
use Rattle.productions.specs.declared.trouble.Trouble.{Trouble}
use Rattle.productions.specs.declared.trouble.Trouble.TheVariants.{Refused as TextRefused, NoMemory as OutOfMemory}
use Rattle.productions.specs.declared.variables.Variable.{Variable}
use Rattle.productions.specs.declared.variables.Variables.{Variables}
use Rattle.productions.specs.Sofar.{Met, Sofar, rule_read, first_met, nobody, met_fault_among, unbound_among, number_among, met_too, Acting, on_make, on_modify}
use Rattle.productions.specs.Machine.{State, at_opening, at_head, at_name, at_first, at_conditions, at_negated, at_class, at_pairs, at_attribute, at_test, at_choice, at_operand, at_choices, at_actions, at_action, at_make, at_modify, at_remove, at_closing, at_settings, at_setting, at_value, Move, turned}

-- the variables that were met
abbrev pub met_of : Variable → Met
met_of v = record { word = spelling v.name; negated = v.negated; condition = v.condition }

abbrev pub variables_of : Variables → List Met
variables_of v = map met_of v.list

-- what looking a variable up answers: its number, and where it was met
abbrev pub Finds : List Met → List ℕ → Option (Place × Variable) → Type 0
Finds vs w (Some (p, v)) = (first_met vs w ≡ Some p.number) × (slice_index_or vs p.number nobody ≡ met_of v)
Finds vs w None = first_met vs w ≡ None

-- an answer that is refused with what is wrong, and is so where nothing is wrong
abbrev pub Judges : {X : Type 0} → Result X Cause → Option Fault → (X → Type 0) → Type 0
Judges (Ok x) f P = (f ≡ None) × P x
Judges (Err c) f P = (g : Fault) × (f ≡ Some g) × (c ≡ cause_of g)

-- what meeting a variable in the condition n answers, and the variables after it
abbrev pub Meets : List Met → List ℕ → Bool → Bool → ℕ → Result Place Cause → List Met → Type 0
Meets vs w binds negated n r us = Judges r (met_fault_among vs n binds w (first_met vs w)) (λ p. (p.number ≡ number_among vs w) × (us ≡ met_too vs negated n w))

-- what looking a variable up for an action answers
abbrev pub Gives : List Met → List ℕ → Result Place Cause → Type 0
Gives vs w r = Judges r (unbound_among vs (first_met vs w)) (λ p. p.number ≡ number_among vs w)

-- ---- a draft

abbrev pub acting_of : RustActing → Acting
acting_of (Make c) = on_make (declared c)
acting_of (Modify k c) = on_modify k (declared c)

abbrev pub settings_of : List RustSetting → List SettingMeant
settings_of ss = map setting_of ss

-- what was read whole, where the names are ns
abbrev pub sofar_of : List (List ℕ) → Draft → Sofar
sofar_of ns d =
    record {
      names = ns;
      name = d.name;
      conditions = conditions_of (vec_items d.conditions);
      variables = variables_of d.variables;
      actions = actions_of (vec_items d.actions);
      used = size_meant d.used;
    }

-- ---- states and steps

-- a state of the code, where the names are ns, as a state of the reading
abbrev pub state_of : List (List ℕ) → Draft → RustState → State
state_of ns d Opening = at_opening ns
state_of ns d Head = at_head ns
state_of ns d Name = at_name ns
state_of ns d First = at_first (sofar_of ns d)
state_of ns d Conditions = at_conditions (sofar_of ns d)
state_of ns d Negated = at_negated (sofar_of ns d)
state_of ns d (Class b) = at_class (sofar_of ns d) b
state_of ns d Pairs = at_pairs (sofar_of ns d) (condition_of d.condition)
state_of ns d Attribute = at_attribute (sofar_of ns d) (condition_of d.condition)
state_of ns d (Test f) = at_test (sofar_of ns d) (condition_of d.condition) f.number
state_of ns d (Operand f p) = at_operand (sofar_of ns d) (condition_of d.condition) f.number p
state_of ns d (Choice f) = at_choice (sofar_of ns d) (condition_of d.condition) f.number
state_of ns d (Choices f) = at_choices (sofar_of ns d) (condition_of d.condition) f.number (vec_items d.choice)
state_of ns d Actions = at_actions (sofar_of ns d)
state_of ns d Action = at_action (sofar_of ns d)
state_of ns d StateMake = at_make (sofar_of ns d)
state_of ns d StateModify = at_modify (sofar_of ns d)
state_of ns d Remove = at_remove (sofar_of ns d)
state_of ns d Closing = at_closing (sofar_of ns d)
state_of ns d Settings = at_settings (sofar_of ns d) (acting_of d.acting) (settings_of (vec_items d.settings))
state_of ns d Setting = at_setting (sofar_of ns d) (acting_of d.acting) (settings_of (vec_items d.settings))
state_of ns d (Value f) = at_value (sofar_of ns d) (acting_of d.acting) (settings_of (vec_items d.settings)) f.number

-- what a turn of the code answers is a step of the reading, where the names and the draft are then ms and d; memory runs out only at
-- a word that leads on
abbrev pub Moves : Result Turn Halt → List (List ℕ) → Draft → Move → Type 0
Moves (Ok (Onward s)) ms d t = onward (state_of ms d s) ≡ t
Moves (Ok Whole) ms d t = whole (rule_read (sofar_of ms d), ms) ≡ t
Moves (Err (Refused c)) ms d t = fails c ≡ t
Moves (Err NoMemory) ms d t = (s : State) × (onward s ≡ t)

-- and the names, which were ns, are only added to
abbrev pub Steps : List (List ℕ) → Result Turn Halt → List (List ℕ) → Draft → Move → Type 0
Steps ns r ms d t = Moves r ms d t × Grows ns ms

-- the same, of what the code answers to a word of the kind k in its state s, with the draft d before and e after; where the classes
-- or the rules do not matter, [] stands for them
abbrev pub Turns : List Declared → List Rule → List (List ℕ) → Draft → RustState → Kind → Result Turn Halt → List (List ℕ) → Draft → Type 0
Turns cs rs ns d s k r ms e = Steps ns r ms e (turned cs rs (state_of ns d s) (sense k))

-- why a production is not read, by why its word at this place is not taken
abbrev pub trouble_at : Halt → ℕ → Trouble
trouble_at (Refused c) place = TextRefused (record { cause = c; place = place })
trouble_at NoMemory place = OutOfMemory
