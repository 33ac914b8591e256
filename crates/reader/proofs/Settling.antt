-- Only one answer fits the words, and only some causes are due. Assumes nothing.
use Rattle.std.proofs.Common.{ℕ, Bool, true, false, cond, ◌||◌, leb, List, [], ◌∷◌, ◌++◌, length, set, is_some, Some, None, Option, sym, subst}
use Rattle.words.specs.Words.{Lexeme}
use Rattle.values.specs.declared.value.Value.{Value}
use Rattle.values.specs.Elements.{blank}
use Rattle.values.specs.Naming.{number_of, answer_intern, after_intern}
use Rattle.rules.specs.Attributes.{Declared, new_class, with_attribute}
use Rattle.languages.specs.declared.refusal.Cause.{Cause}
use Rattle.languages.specs.declared.refusal.Cause.TheVariants.{IllegalWord, UnexpectedWord, WrongName, WrongVariable, NoSuchCondition, OverLimit}
use Rattle.languages.specs.Languages.{OneAnswer, Faulty, Stands}
use Rattle.languages.specs.Naming.{Constant, symbolic, numeric, numbered, unnameable, class_at, field_at, class_named, field_named, value_of, after_value, value_fault}
use Rattle.languages.specs.Refusals.{Fault, wrong_name, wrong_variable, no_such_condition, over_limit}
use Rattle.languages.specs.Scripts.{Judged, judged_in}
use Rattle.languages.proofs.Alike.{one-answer-too}
use Rattle.reader.specs.declared.form.Phase.{Phase}
use Rattle.reader.specs.declared.form.Phase.TheVariants.{Declaring, Commanding}
use Rattle.reader.specs.Forms.{FormOf, Setting, one, every, CommandForm, make, remove, list_memory, among, attributes_script, declaration_script, settings_script, command_script}
use Rattle.reader.specs.Machine.{opening}
use Rattle.reader.specs.Reading.{script_of}
use Rattle.reader.specs.Settled.{Due, Settled}
use Rattle.reader.proofs.Numbered.{declaration_by_number, alike, asked-alike}
use Rattle.reader.proofs.Rests.{one-fits}

one_fits : (ph : Phase) (cs : List Declared) (ns : List (List ℕ)) → OneAnswer (script_of ph cs ns)
one_fits Declaring cs ns = one-answer-too (declaration_by_number cs ns) (declaration_script cs ns) (alike cs ns) (asked-alike cs ns) (one-fits cs (opening Declaring ns))
one_fits Commanding cs ns = one-fits cs (opening Commanding ns)

-- ---- what can be wrong with a word of a declaration or a command

abbrev Plain : Option Fault → Type 0
Plain None = Unit {0}
Plain (Some wrong_name) = Unit {0}
Plain (Some wrong_variable) = ⊥
Plain (Some no_such_condition) = ⊥
Plain (Some over_limit) = Unit {0}

abbrev AllPlain : List Judged → Type 0
AllPlain [] = Unit {0}
AllPlain (j ∷ js) = Plain j.fault × AllPlain js

plain_cond : (b : Bool) (x y : Option Fault) → Plain x → Plain y → Plain (cond b x y)
plain_cond true x y p q = p
plain_cond false x y p q = q

plain_value : (ns : List (List ℕ)) (v : Constant) → Plain (value_fault ns v)
plain_value ns (symbolic w) = plain_cond (unnameable ns w) (Some over_limit) None tt tt
plain_value ns (numeric n) = tt

plain_attributes : (xs ns seen : List (List ℕ)) (c : Declared) → AllPlain (judged_in (attributes_script c ns seen xs))
plain_attributes [] ns seen c = (tt, tt)
plain_attributes (x ∷ xs) ns seen c = (
  plain_cond (among x seen) _ _ tt (plain_cond (leb 15 (length seen) || unnameable ns x) (Some over_limit) None tt tt),
  plain_attributes xs (after_intern ns x) (seen ++ x ∷ []) (with_attribute c (numbered ns x)),
)

plain_settings : (ss : List Setting) (c : Declared) (ns : List (List ℕ)) (e : List Value) → AllPlain (judged_in (settings_script c ns e ss))
plain_settings [] c ns e = (tt, tt)
plain_settings (s ∷ ss) c ns e = (
  tt,
  (
    plain_cond (is_some (field_at c (number_of ns s.attribute))) None (Some wrong_name) tt tt,
    (
      plain_value ns s.value,
      plain_settings ss c (after_value ns s.value) (set e (field_named c ns s.attribute) (value_of ns s.value)),
    ),
  ),
)

plain_command : (cs : List Declared) (ns : List (List ℕ)) (f : CommandForm) → AllPlain (judged_in (command_script cs ns f))
plain_command cs ns (make c ss) =
    (tt, (tt, (plain_cond (is_some (class_at cs (number_of ns c))) None (Some wrong_name) tt tt, plain_settings ss (class_named cs ns c) ns (blank (class_named cs ns c).name))))
plain_command cs ns (remove (one n)) = (tt, (tt, (tt, (tt, tt))))
plain_command cs ns (remove every) = (tt, (tt, (tt, (tt, tt))))
plain_command cs ns list_memory = (tt, (tt, (tt, tt)))

plain_form : (ph : Phase) (cs : List Declared) (ns : List (List ℕ)) (f : FormOf ph) → AllPlain (judged_in (script_of ph cs ns f))
plain_form Declaring cs ns d = (
  tt,
  (
    tt,
    (
      plain_cond (is_some (class_at cs (answer_intern ns d.class))) _ _ tt (plain_cond (leb 16 (length cs) || unnameable ns d.class) (Some over_limit) None tt tt),
      plain_attributes d.attributes (after_intern ns d.class) [] (new_class (numbered ns d.class)),
    ),
  ),
)
plain_form Commanding cs ns f = plain_command cs ns f

plain_at : (here : List Judged) (j : Judged) (ahead : List Judged) → AllPlain (here ++ j ∷ ahead) → Plain j.fault
plain_at [] j ahead p = p.0
plain_at (i ∷ here) j ahead p = plain_at here j ahead p.1

plain_faulty : (ph : Phase) (cs : List Declared) (ns : List (List ℕ)) (front : List Lexeme) (l : Lexeme) (fault : Fault) → Faulty (script_of ph cs ns) front l fault → Plain (Some fault)
plain_faulty ph cs ns front l fault f = subst Plain f.is (plain_at f.here f.broken f.ahead (subst AllPlain f.split (plain_form ph cs ns f.form)))

due_here : (ph : Phase) (cs : List Declared) (ns : List (List ℕ)) (front ls : List Lexeme) (end : ℕ) (c : Cause) (p : ℕ) → Stands (script_of ph cs ns) front ls end c p → Due c
due_here ph cs ns front [] end c p s = subst Due (sym s.0) tt
due_here ph cs ns front (l ∷ ls) end IllegalWord p s = tt
due_here ph cs ns front (l ∷ ls) end UnexpectedWord p s = tt
due_here ph cs ns front (l ∷ ls) end WrongName p s = tt
due_here ph cs ns front (l ∷ ls) end WrongVariable p s = plain_faulty ph cs ns front l wrong_variable s.1
due_here ph cs ns front (l ∷ ls) end NoSuchCondition p s = plain_faulty ph cs ns front l no_such_condition s.1
due_here ph cs ns front (l ∷ ls) end OverLimit p s = tt

pub settled : Settled
settled = record { one_answer = one_fits; due = λ ph cs ns ls end c p b. due_here ph cs ns b.front b.back end c p b.stands }
