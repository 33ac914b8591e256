-- What the reader's own values mean. Assumes nothing.
use Rattle.std.specs.Prelude.{◌≡◌, ℕ, List, length, Ok, Err, Result}
use Rattle.words.specs.declared.text.Words.{Words}
use Rattle.words.specs.Kinds.{Kind}
use Rattle.words.specs.Words.{Lexeme, rest, text_of}
use Rattle.values.specs.Elements.{fields_of}
use Rattle.rules.specs.Attributes.{Declared, declared}
use Rattle.reader.specs.declared.form.Command.{Command}
use Rattle.reader.specs.declared.form.Command.TheVariants.{Make, Remove, RemoveAll, ListMemory}
use Rattle.reader.specs.declared.form.Phase.{Phase}
use Rattle.reader.specs.declared.form.Taken.{Taken}
use Rattle.reader.specs.declared.form.Taken.TheVariants.{Declaration, Commanded}
use Rattle.languages.specs.declared.refusal.Cause.{Cause}
use Rattle.languages.specs.declared.refusal.Refusal.{Refusal}
use Rattle.languages.specs.Naming.{Grows}
use Rattle.languages.specs.Senses.{sense}
use Rattle.reader.specs.declared.state.State.{State as Reading}
use Rattle.reader.specs.declared.state.State.TheVariants.{Opening, Head, ClassName, Attributes, ElementClass, Pairs, Attribute, FieldValue, Tag, Closing}
use Rattle.reader.specs.declared.state.Step.{Step as Turn}
use Rattle.reader.specs.declared.state.Step.TheVariants.{Onward, Whole}
use Rattle.reader.specs.Forms.{Act, makes, removes, removes_all, lists, Entry, declares, commands, Asked}
use Rattle.reader.specs.Machine.{State, opening, head, class_name, attributes, element_class, pairs, attribute, field_value, tag, closing, Move, turned}
use Rattle.languages.specs.Machines.{onward, whole, fails, Outcome, taken, stopped, run, place_of}

-- what a command asks for
abbrev pub act_of : Command → Act
act_of (Make e) = makes (fields_of e)
act_of (Remove n) = removes n
act_of RemoveAll = removes_all
act_of ListMemory = lists

-- what a form asks for
abbrev pub entry_of : Taken → Entry
entry_of (Declaration c) = declares (declared c)
entry_of (Commanded c) = commands (act_of c)

-- a state of the code, where the names are ns, as a state of the reading
abbrev pub state_of : List (List ℕ) → Reading → State
state_of ns (Opening ph) = opening ph ns
state_of ns (Head ph) = head ph ns
state_of ns ClassName = class_name ns
state_of ns (Attributes c) = attributes ns (declared c)
state_of ns ElementClass = element_class ns
state_of ns (Pairs f) = pairs ns (declared f.class) (fields_of f.element)
state_of ns (Attribute f) = attribute ns (declared f.class) (fields_of f.element)
state_of ns (FieldValue f p) = field_value ns (declared f.class) (fields_of f.element) p.number
state_of ns Tag = tag ns
state_of ns (Closing c) = closing ns (act_of c)

-- a turn of the code is a step of the reading, and it only adds names: ns are those before it, and ms those after it
abbrev pub Steps : List (List ℕ) → Result Turn Cause → List (List ℕ) → Move → Type 0
Steps ns (Ok (Onward s)) ms t = (onward (state_of ms s) ≡ t) × Grows ns ms
Steps ns (Ok (Whole f)) ms t = (whole (entry_of f, ms) ≡ t) × Grows ns ms
Steps ns (Err c) ms t = (fails c ≡ t) × Grows ns ms

-- the same, of what the code answers to a word of the kind k in one of its states; where the classes do not matter, [] stands for them
abbrev pub Turns : List Declared → List (List ℕ) → Reading → Kind → Result Turn Cause → List (List ℕ) → Type 0
Turns cs ns s k r ms = Steps ns r ms (turned cs (state_of ns s) (sense k))

-- a reading from the words `before` with the names ns ends with the outcome o: the code answers r, the names are then ms and only added
-- to, and the words then left are those of `after`, of the same text
abbrev pub Ends : Outcome Asked → Words → List (List ℕ) → Result Taken Refusal → List (List ℕ) → Words → Type 0
Ends o before ns (Ok form) ms after = (o ≡ taken (entry_of form, ms) (rest after)) × Grows ns ms × (text_of after ≡ text_of before)
Ends o before ns (Err x) ms after =
    ((back : List Lexeme) × (o ≡ stopped x.cause back) × (x.place ≡ place_of (length (text_of before)) back))
    × Grows ns ms × (text_of after ≡ text_of before)

-- the same, of reading a form of a phase
abbrev pub Ran : Phase → List Declared → Words → List (List ℕ) → Result Taken Refusal → List (List ℕ) → Words → Type 0
Ran ph cs before ns r ms after = Ends (run (turned cs) (opening ph ns) (rest before)) before ns r ms after
