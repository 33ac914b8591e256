-- From the outcome of a reading to the answers of the calls. Assumes nothing.
use Rattle.std.proofs.Common.{◌≡◌, ℕ, ◌<◌, ◌≤◌, Bool, true, false, cond, not, ◌||◌, leb, List, [], ◌∷◌, ◌++◌, length, set, is_some, Some, None, Ok, Err, Option, unwrap_or, sym, refl, ap, ◌∙◌, subst, inr}
use Rattle.std.proofs.lemmas.Bool.{cond-false}
use Rattle.words.specs.declared.text.Words.{Words}
use Rattle.words.specs.Words.{Lexeme, rest, text_of}
use Rattle.values.specs.declared.value.Value.{Value}
use Rattle.values.specs.Elements.{blank}
use Rattle.values.specs.Naming.{answer_intern, after_intern}
use Rattle.rules.specs.Attributes.{Declared, declared, new_class, with_attribute}
use Rattle.rules.specs.declared.class.Class.{Class}
use Rattle.rules.specs.Declarations.{find_class, answer_declare, after_declare}
use Rattle.languages.specs.declared.refusal.Cause.{Cause}
use Rattle.languages.specs.declared.refusal.Refusal.{Refusal}
use Rattle.languages.specs.Languages.{Takes, TakesNone, Broken, longest}
use Rattle.languages.specs.Machines.{taken, stopped, run, place_of}
use Rattle.languages.specs.Naming.{numbered, class_at, class_named, field_named, value_of, after_value}
use Rattle.languages.specs.Refusals.{wrong_name, over_limit}
use Rattle.languages.specs.Scripts.{judged_in, asked_by}
use Rattle.languages.proofs.Alike.{alike-sym, takes-too, none-too, broken-too}
use Rattle.reader.specs.declared.form.Phase.{Phase}
use Rattle.reader.specs.declared.form.Phase.TheVariants.{Declaring, Commanding}
use Rattle.reader.specs.declared.form.Command.{Command}
use Rattle.reader.specs.declared.form.Taken.{Taken}
use Rattle.reader.specs.declared.form.Taken.TheVariants.{Declaration, Commanded}
use Rattle.reader.specs.Meaning.{entry_of}
use Rattle.reader.specs.Forms.{Setting, one, every, CommandForm, make, remove, list_memory, Entry, declares, commands, Asked, attributes_script, declaration_script, settings_script, command_script}
use Rattle.reader.specs.Machine.{opening, turned}
use Rattle.reader.specs.Reading.{script_of, Reads, declares_next, ReadsDeclaration}
use Rattle.reader.proofs.Numbered.{declaration_by_number, alike, asked-alike}
use Rattle.reader.proofs.Rests.{takes, none, broken, fewer}

-- ---- what a reading's outcome says of the words

pub took : (ph : Phase) (cs : List Declared) (ns : List (List ℕ)) (ls : List Lexeme) (e : Asked) (after : List Lexeme) → run (turned cs) (opening ph ns) ls ≡ taken e after → Takes (script_of ph cs ns) ls e after
took Declaring cs ns ls e after h =
    takes-too (declaration_by_number cs ns) (declaration_script cs ns) (alike cs ns) (asked-alike cs ns) ls e after (takes cs (opening Declaring ns) ls e after h)
took Commanding cs ns ls e after h = takes cs (opening Commanding ns) ls e after h

pub took_none : (ph : Phase) (cs : List Declared) (ns : List (List ℕ)) (ls back : List Lexeme) (c : Cause) → run (turned cs) (opening ph ns) ls ≡ stopped c back → TakesNone (script_of ph cs ns) ls
took_none Declaring cs ns ls back c h =
    none-too (declaration_by_number cs ns) (declaration_script cs ns) (alike cs ns) (asked-alike cs ns) ls (none cs (opening Declaring ns) ls back c h)
took_none Commanding cs ns ls back c h = none cs (opening Commanding ns) ls back c h

pub stopped_at : (ph : Phase) (cs : List Declared) (ns : List (List ℕ)) (ls back : List Lexeme) (end : ℕ) (c : Cause) (p : ℕ) → run (turned cs) (opening ph ns) ls ≡ stopped c back → p ≡ place_of end back → Broken (script_of ph cs ns) ls end c p
stopped_at Declaring cs ns ls back end c p h g =
    broken-too (declaration_by_number cs ns) (declaration_script cs ns) (alike cs ns) (asked-alike cs ns) ls end c p (broken cs (opening Declaring ns) ls back end c p h g)
stopped_at Commanding cs ns ls back end c p h g = broken cs (opening Commanding ns) ls back end c p h g

-- a form that was taken leaves fewer words
pub takes_fewer : (ph : Phase) (cs : List Declared) (ns : List (List ℕ)) (ls : List Lexeme) (e : Asked) (after : List Lexeme) → Takes (script_of ph cs ns) ls e after → length after < length ls
takes_fewer Declaring cs ns ls e after t =
    fewer cs (opening Declaring ns) ls e after
    (takes-too (declaration_script cs ns) (declaration_by_number cs ns) (λ d. alike-sym (judged_in (declaration_by_number cs ns d)) (judged_in (declaration_script cs ns d)) (alike cs ns d)) (λ d. sym (asked-alike cs ns d)) ls e after t)
takes_fewer Commanding cs ns ls e after t = fewer cs (opening Commanding ns) ls e after t

-- ---- a class that was read is new, and there is room for it

abbrev name_in : Entry → ℕ
name_in (declares c) = c.name
name_in (commands a) = 0

name-kept : (xs ns seen : List (List ℕ)) (c : Declared) → name_in (asked_by (attributes_script c ns seen xs)).0 ≡ c.name
name-kept [] ns seen c = refl
name-kept (x ∷ xs) ns seen c = name-kept xs (after_intern ns x) (seen ++ x ∷ []) (with_attribute c (numbered ns x))

class-new : (cs : List Declared) (o : Option ℕ) → cond (is_some (class_at cs o)) (Some wrong_name) (cond (leb 16 (length cs) || not (is_some o)) (Some over_limit) None) ≡ None → (is_some (find_class cs (unwrap_or o 0)) ≡ false) × (leb 16 (length cs) ≡ false)
class-new cs None = λ e. absurd (full (leb 16 (length cs)) e)
  where
    full : (d : Bool) → cond (d || true) (Some over_limit) None ≡ None → ⊥
    full true e = cc
    full false e = cc
class-new cs (Some i) = by (is_some (find_class cs i)) (leb 16 (length cs))
  where
    by : (b d : Bool) → cond b (Some wrong_name) (cond (d || false) (Some over_limit) None) ≡ None → (b ≡ false) × (d ≡ false)
    by true d e = absurd cc
    by false true e = absurd cc
    by false false e = (refl, refl)

-- a class that is declared is new, and there is room for it
new_class_lem : (cs : List Declared) (ns ms : List (List ℕ)) (ls after : List Lexeme) (d : Declared) → Takes (declaration_script cs ns) ls (declares d, ms) after → (is_some (find_class cs d.name) ≡ false) × (leb 16 (length cs) ≡ false)
new_class_lem cs ns ms ls after d t =
    let w = t.form.class in
    let name : d.name ≡ numbered ns w = ap (λ x. name_in x.0) t.asked ∙ name-kept t.form.attributes (after_intern ns w) [] (new_class (numbered ns w)) in
    let new = class-new cs (answer_intern ns w) t.clear.1.1.0 in
    (ap (λ n. is_some (find_class cs n)) name ∙ new.0, new.1)

-- ---- a declaration declares, and a command commands

abbrev Declares : Entry → Type 0
Declares (declares c) = Unit {0}
Declares (commands a) = ⊥

asks-class : (xs ns seen : List (List ℕ)) (c : Declared) → Declares (asked_by (attributes_script c ns seen xs)).0
asks-class [] ns seen c = tt
asks-class (x ∷ xs) ns seen c = asks-class xs (after_intern ns x) (seen ++ x ∷ []) (with_attribute c (numbered ns x))

abbrev Commands : Entry → Type 0
Commands (declares c) = ⊥
Commands (commands a) = Unit {0}

asks-make : (ss : List Setting) (c : Declared) (ns : List (List ℕ)) (e : List Value) → Commands (asked_by (settings_script c ns e ss)).0
asks-make [] c ns e = tt
asks-make (s ∷ ss) c ns e = asks-make ss c (after_value ns s.value) (set e (field_named c ns s.attribute) (value_of ns s.value))

asks-act : (cs : List Declared) (ns : List (List ℕ)) (f : CommandForm) → Commands (asked_by (command_script cs ns f)).0
asks-act cs ns (make c ss) = asks-make ss (class_named cs ns c) ns (blank (class_named cs ns c).name)
asks-act cs ns (remove (one n)) = tt
asks-act cs ns (remove every) = tt
asks-act cs ns list_memory = tt

pub declares_one : (cs : List Declared) (ns ms : List (List ℕ)) (ls after : List Lexeme) (f : Taken) (a : Command) → Takes (declaration_script cs ns) ls (entry_of f, ms) after → f ≡ Commanded a → ⊥
declares_one cs ns ms ls after f a t e =
    subst (λ x. Declares x.0) (sym t.asked ∙ ap (λ g. (entry_of g, ms)) e) (asks-class t.form.attributes (after_intern ns t.form.class) [] (new_class (numbered ns t.form.class)))

pub commands_one : (cs : List Declared) (ns ms : List (List ℕ)) (ls after : List Lexeme) (f : Taken) (c : Class) → Takes (command_script cs ns) ls (entry_of f, ms) after → f ≡ Declaration c → ⊥
commands_one cs ns ms ls after f c t e = subst (λ x. Commands x.0) (sym t.asked ∙ ap (λ g. (entry_of g, ms)) e) (asks-act cs ns t.form)

module _ (cs ds : List Declared) (ns ms : List (List ℕ)) (ls after : List Lexeme) (f : Taken) (c : Class) (q : ds ≡ cs) (t : Takes (declaration_script ds ns) ls (entry_of f, ms) after) (e : f ≡ Declaration c) where
  taken_so : Takes (declaration_script cs ns) ls (declares (declared c), ms) after
  taken_so = subst (λ x. Takes (declaration_script x ns) ls (declares (declared c), ms) after) q (subst (λ h. Takes (declaration_script ds ns) ls (entry_of h, ms) after) e t)

  pub declared_taken : (es : List Declared) → es ≡ after_declare cs (declared c) → (x : Declared) × Takes (declaration_script cs ns) ls (declares x, ms) after × (es ≡ cs ++ x ∷ [])
  declared_taken es g =
      let new = new_class_lem cs ns ms ls after (declared c) taken_so in
      (declared c, taken_so, g ∙ cond-false (is_some (find_class cs c.name)) _ _ new.0 ∙ cond-false (leb 16 (length cs)) _ _ new.1)

  -- so the base takes it
  pub declared_well : answer_declare cs (declared c) ≡ Ok tt
  declared_well =
      let new = new_class_lem cs ns ms ls after (declared c) taken_so in
      cond-false (is_some (find_class cs c.name)) _ _ new.0 ∙ cond-false (leb 16 (length cs)) _ _ new.1

pub declaration_refused : (end : ℕ) (cs ds : List Declared) (ns ms : List (List ℕ)) (before after : Words) (x : Refusal) → end ≡ length (text_of before) → end ≤ longest → declares_next (rest before) ≡ true → ds ≡ cs → Reads Declaring ds ns before (Err x) ms after → ReadsDeclaration end cs ns (rest before) (Err x) cs ms (rest after)
declaration_refused end cs ds ns ms before after x is short comes q r = (
  refl,
  r.0,
  ap rest r.1,
  inr (
    short,
    comes,
    subst (λ z. TakesNone (declaration_script z ns) (rest before)) q r.2,
    subst (λ z. Broken (declaration_script z ns) (rest before) end x.cause x.place) q (subst (λ z. Broken (declaration_script ds ns) (rest before) z x.cause x.place) (sym is) r.3),
  ),
)
