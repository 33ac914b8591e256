-- What may be left of a declaration or a command in each state, and that the words lead through the states. Assumes nothing.
use Rattle.std.proofs.Common.{◌≡◌, ℕ, ◌<◌, List, [], ◌∷◌, length, set, pos, None, codes, Option, refl}
use Rattle.words.specs.Kinds.{Kind, open', close', hat, number, symbol, illegal}
use Rattle.values.specs.declared.value.Value.{Value}
use Rattle.values.specs.declared.value.Value.TheVariants.{Symbol, Number}
use Rattle.values.specs.Elements.{blank}
use Rattle.values.specs.Naming.{after_intern}
use Rattle.rules.specs.Attributes.{Declared, new_class, with_attribute}
use Rattle.reader.specs.declared.form.Phase.{Phase}
use Rattle.reader.specs.declared.form.Phase.TheVariants.{Declaring, Commanding}
use Rattle.languages.specs.declared.refusal.Cause.TheVariants.{IllegalWord}
use Rattle.languages.specs.Senses.{sense}
use Rattle.languages.specs.Scripts.{Judged, Script, then', asks, judge, fine}
use Rattle.languages.specs.Naming.{Constant, symbolic, numeric, numbered, class_named, field_named, constant_word, value_of, after_value, undeclared, lacking, value_fault}
use Rattle.reader.specs.Forms.{DeclarationForm, Setting, Target, one, every, CommandForm, make, remove, list_memory, FormOf, makes, removes, removes_all, lists, declares, commands, Asked, class_fault, close_script, settings_script, make_script, target_script, head_script, command_script}
use Rattle.words.specs.Words.{Lexeme}
use Rattle.languages.specs.declared.refusal.Cause.{Cause}
use Rattle.languages.specs.Refusals.{Fault}
use Rattle.languages.specs.Languages.{Takes, TakesNone, Broken, OneAnswer}
use Rattle.languages.specs.Machines.{onward, whole, fails, unless, on_symbol, on_close, refuse, taken, stopped, run, place_of}
use Rattle.reader.proofs.Numbered.{attributes_by_number, class_by_number, declaration_by_number}
use Rattle.reader.specs.Machine.{State, attribute_fault_by_number, opening, head, class_name, attributes, element_class, pairs, attribute, field_value, tag, closing, head_word, class_word, attribute_word, element_word, field_word, symbol_word, number_word, every_word, unexpected, Move, turned}
use Rattle.languages.proofs.Following.{legal_symbol, View, ends, goes, Next, leads, run-takes, stopped_none, run-broken, takes_fewer, one_answer}
use Rattle.languages.proofs.Kindwise.{by_refuse, by_open, by_close, by_hat, by_number, by_symbol, by_certain}

-- what may be left of a form
abbrev pub Rest : State → Type 0
Rest (opening ph ns) = FormOf ph
Rest (head ph ns) = FormOf ph
Rest (class_name ns) = DeclarationForm
Rest (element_class ns) = List ℕ × List Setting
Rest (tag ns) = Target
Rest (attributes ns c) = List (List ℕ)
Rest (pairs ns c e) = List Setting
Rest (attribute ns c e) = Setting × List Setting
Rest (field_value ns c e f) = Constant × List Setting
Rest (closing ns a) = Unit {0}

-- the value of a setting, and what follows it
abbrev value_script : List (List ℕ) → Declared → List Value → ℕ → Constant → List Setting → Script Asked
value_script ns c e f v ss = then' (judge (constant_word v) (value_fault ns v)) (settings_script c (after_value ns v) (set e f (value_of ns v)) ss)

module _ (cs : List Declared) where
  -- its words
  abbrev pub left : (s : State) → Rest s → Script Asked
  left (opening Declaring ns) r = declaration_by_number cs ns r
  left (opening Commanding ns) r = command_script cs ns r
  left (head Declaring ns) r = then' (fine (symbol (codes "literalize"))) (class_by_number cs ns r)
  left (head Commanding ns) r = head_script cs ns r
  left (class_name ns) r = class_by_number cs ns r
  left (element_class ns) r = make_script cs ns r.0 r.1
  left (tag ns) r = target_script ns r
  left (attributes ns c) r = attributes_by_number c ns r
  left (pairs ns c e) r = settings_script c ns e r
  left (attribute ns c e) r = then' (judge (symbol r.0.attribute) (lacking c ns r.0.attribute)) (value_script ns c e (field_named c ns r.0.attribute) r.0.value r.1)
  left (field_value ns c e f) r = value_script ns c e f r.0 r.1
  left (closing ns a) r = close_script a ns

  some : (s : State) → Rest s
  some (opening Declaring ns) = record { class = []; attributes = [] }
  some (opening Commanding ns) = list_memory
  some (head Declaring ns) = record { class = []; attributes = [] }
  some (head Commanding ns) = list_memory
  some (class_name ns) = record { class = []; attributes = [] }
  some (element_class ns) = ([], [])
  some (tag ns) = every
  some (attributes ns c) = []
  some (pairs ns c e) = []
  some (attribute ns c e) = (record { attribute = []; value = numeric (pos 0) }, [])
  some (field_value ns c e f) = (numeric (pos 0), [])
  some (closing ns a) = tt

  -- ---- the first word of what is left

  abbrev Seen : (s : State) → Rest s → Type 0
  Seen s r = View (turned cs) Rest left s (left s r)

  to : (s : State) (j : Judged) (t : State) (r : Rest t) → sense j.word ≡ j.word → turned cs s j.word ≡ unless j.fault (onward t) → View (turned cs) Rest left s (then' j (left t r))
  to = goes (turned cs) Rest left

  end : (s : State) (j : Judged) (e : Asked) → sense j.word ≡ j.word → turned cs s j.word ≡ unless j.fault (whole e) → View (turned cs) Rest left s (then' j (asks e))
  end = ends (turned cs) Rest left

  see_head : (ns : List (List ℕ)) (f : CommandForm) → Seen (head Commanding ns) f
  see_head ns (make c ss) = to (head Commanding ns) (fine (symbol (codes "make"))) (element_class ns) (c, ss) refl refl
  see_head ns (remove t) = to (head Commanding ns) (fine (symbol (codes "remove"))) (tag ns) t refl refl
  see_head ns list_memory = to (head Commanding ns) (fine (symbol (codes "wm"))) (closing ns lists) tt refl refl

  see_tag : (ns : List (List ℕ)) (t : Target) → Seen (tag ns) t
  see_tag ns (one n) = to (tag ns) (fine (number n [])) (closing ns (removes n)) tt refl refl
  see_tag ns every = to (tag ns) (fine (symbol (codes "*"))) (closing ns removes_all) tt refl refl

  see_attributes : (ns : List (List ℕ)) (c : Declared) (xs : List (List ℕ)) → Seen (attributes ns c) xs
  see_attributes ns c [] = end (attributes ns c) (fine close') (declares c, ns) refl refl
  see_attributes ns c (x ∷ xs) = to (attributes ns c) (judge (symbol x) (attribute_fault_by_number c ns x)) (attributes (after_intern ns x) (with_attribute c (numbered ns x))) xs refl refl

  see_pairs : (ns : List (List ℕ)) (c : Declared) (e : List Value) (ss : List Setting) → Seen (pairs ns c e) ss
  see_pairs ns c e [] = end (pairs ns c e) (fine close') (commands (makes e), ns) refl refl
  see_pairs ns c e (s ∷ ss) = to (pairs ns c e) (fine hat) (attribute ns c e) (s, ss) refl refl

  see_value : (ns : List (List ℕ)) (c : Declared) (e : List Value) (f : ℕ) (v : Constant) (ss : List Setting) → Seen (field_value ns c e f) (v, ss)
  see_value ns c e f (symbolic w) ss = to (field_value ns c e f) (judge (symbol w) (value_fault ns (symbolic w))) (pairs (after_intern ns w) c (set e f (Symbol (numbered ns w)))) ss refl refl
  see_value ns c e f (numeric n) ss = to (field_value ns c e f) (fine (number n [])) (pairs ns c (set e f (Number n))) ss refl refl

  see : (s : State) (r : Rest s) → Seen s r
  see (opening Declaring ns) r = to (opening Declaring ns) (fine open') (head Declaring ns) r refl refl
  see (opening Commanding ns) r = to (opening Commanding ns) (fine open') (head Commanding ns) r refl refl
  see (head Declaring ns) r = to (head Declaring ns) (fine (symbol (codes "literalize"))) (class_name ns) r refl refl
  see (head Commanding ns) r = see_head ns r
  see (class_name ns) r = to (class_name ns) (judge (symbol r.class) (class_fault cs ns r.class)) (attributes (after_intern ns r.class) (new_class (numbered ns r.class))) r.attributes refl refl
  see (element_class ns) r = to (element_class ns) (judge (symbol r.0) (undeclared cs ns r.0)) (pairs ns (class_named cs ns r.0) (blank (class_named cs ns r.0).name)) r.1 refl refl
  see (tag ns) r = see_tag ns r
  see (attributes ns c) r = see_attributes ns c r
  see (pairs ns c e) r = see_pairs ns c e r
  see (attribute ns c e) r = to (attribute ns c e) (judge (symbol r.0.attribute) (lacking c ns r.0.attribute)) (field_value ns c e (field_named c ns r.0.attribute)) (r.0.value, r.1) refl refl
  see (field_value ns c e f) r = see_value ns c e f r.0 r.1
  see (closing ns a) r = end (closing ns a) (fine close') (commands a, ns) refl refl

  -- ---- what each word does

  abbrev Does : State → Kind → Move → Type 0
  Does s = Next (turned cs) Rest left s

  lead : (s t : State) (k : Kind) (f : Option Fault) → ((r : Rest t) → (q : Rest s) × (left s q ≡ then' (judge k f) (left t r))) → Does s k (unless f (onward t))
  lead = leads (turned cs) Rest left some

  others : (s : State) (k : Kind) → Does s (sense k) (refuse (sense k))
  others s = by_refuse (Does s) (λ w. (w, refl)) (λ k h. h)

  does_head : (ph : Phase) (ns : List (List ℕ)) (w : List ℕ) → Does (head ph ns) (symbol w) (head_word ph ns w)
  does_head Declaring ns w =
      by_certain (Does (head Declaring ns)) (codes "literalize") (onward (class_name ns)) unexpected w (lead (head Declaring ns) (class_name ns) (symbol (codes "literalize")) None (λ r. (r, refl))) (legal_symbol w)
  does_head Commanding ns w =
      by_certain (Does (head Commanding ns)) (codes "make") (onward (element_class ns)) _ w (lead (head Commanding ns) (element_class ns) (symbol (codes "make")) None (λ r. (make r.0 r.1, refl)))
      (by_certain (Does (head Commanding ns)) (codes "remove") (onward (tag ns)) _ w (lead (head Commanding ns) (tag ns) (symbol (codes "remove")) None (λ r. (remove r, refl)))
      (by_certain (Does (head Commanding ns)) (codes "wm") (onward (closing ns lists)) unexpected w (lead (head Commanding ns) (closing ns lists) (symbol (codes "wm")) None (λ r. (list_memory, refl)))
      (legal_symbol w)))

  does_opening : (ph : Phase) (ns : List (List ℕ)) → Does (opening ph ns) open' (onward (head ph ns))
  does_opening Declaring ns = lead (opening Declaring ns) (head Declaring ns) open' None (λ r. (r, refl))
  does_opening Commanding ns = lead (opening Commanding ns) (head Commanding ns) open' None (λ r. (r, refl))

  does : (s : State) (k : Kind) → Does s (sense k) (turned cs s (sense k))
  does (opening ph ns) = by_open (Does (opening ph ns)) _ refuse (does_opening ph ns) (others (opening ph ns))
  does (head ph ns) = by_symbol (Does (head ph ns)) (head_word ph ns) refuse (does_head ph ns) (others (head ph ns))
  does (class_name ns) =
      by_symbol (Does (class_name ns)) (class_word cs ns) refuse
      (λ w. lead (class_name ns) (attributes (after_intern ns w) (new_class (numbered ns w))) (symbol w) (class_fault cs ns w) (λ r. (record { class = w; attributes = r }, refl)))
      (others (class_name ns))
  does (element_class ns) =
      by_symbol (Does (element_class ns)) (element_word cs ns) refuse
      (λ w. lead (element_class ns) (pairs ns (class_named cs ns w) (blank (class_named cs ns w).name)) (symbol w) (undeclared cs ns w) (λ r. ((w, r), refl)))
      (others (element_class ns))
  does (tag ns) =
      by_number (Does (tag ns)) (λ n. onward (closing ns (removes n))) (on_symbol (every_word ns) refuse)
      (λ n. lead (tag ns) (closing ns (removes n)) (number n []) None (λ r. (one n, refl)))
      (by_symbol (Does (tag ns)) (every_word ns) refuse
      (λ w. by_certain (Does (tag ns)) (codes "*") (onward (closing ns removes_all)) unexpected w (lead (tag ns) (closing ns removes_all) (symbol (codes "*")) None (λ r. (every, refl))) (legal_symbol w))
      (others (tag ns)))
  does (attributes ns c) =
      by_close (Does (attributes ns c)) (whole (declares c, ns)) (on_symbol (attribute_word ns c) refuse)
      ([], refl)
      (by_symbol (Does (attributes ns c)) (attribute_word ns c) refuse
      (λ w. lead (attributes ns c) (attributes (after_intern ns w) (with_attribute c (numbered ns w))) (symbol w) (attribute_fault_by_number c ns w) (λ r. (w ∷ r, refl)))
      (others (attributes ns c)))
  does (pairs ns c e) =
      by_hat (Does (pairs ns c e)) (onward (attribute ns c e)) (on_close (whole (commands (makes e), ns)) refuse)
      (lead (pairs ns c e) (attribute ns c e) hat None (λ r. (r.0 ∷ r.1, refl)))
      (by_close (Does (pairs ns c e)) (whole (commands (makes e), ns)) refuse ([], refl) (others (pairs ns c e)))
  does (attribute ns c e) =
      by_symbol (Does (attribute ns c e)) (field_word ns c e) refuse
      (λ w. lead (attribute ns c e) (field_value ns c e (field_named c ns w)) (symbol w) (lacking c ns w) (λ r. ((record { attribute = w; value = r.0 }, r.1), refl)))
      (others (attribute ns c e))
  does (field_value ns c e f) =
      by_number (Does (field_value ns c e f)) (number_word ns c e f) (on_symbol (symbol_word ns c e f) refuse)
      (λ n. lead (field_value ns c e f) (pairs ns c (set e f (Number n))) (number n []) None (λ r. ((numeric n, r), refl)))
      (by_symbol (Does (field_value ns c e f)) (symbol_word ns c e f) refuse
      (λ w. lead (field_value ns c e f) (pairs (after_intern ns w) c (set e f (Symbol (numbered ns w)))) (symbol w) (value_fault ns (symbolic w)) (λ r. ((symbolic w, r), refl)))
      (others (field_value ns c e f)))
  does (closing ns a) = by_close (Does (closing ns a)) (whole (commands a, ns)) refuse (tt, refl) (others (closing ns a))

  bad : (s : State) (w : List ℕ) → turned cs s (illegal w) ≡ fails IllegalWord
  bad (opening ph ns) w = refl
  bad (head ph ns) w = refl
  bad (class_name ns) w = refl
  bad (element_class ns) w = refl
  bad (tag ns) w = refl
  bad (attributes ns c) w = refl
  bad (pairs ns c e) w = refl
  bad (attribute ns c e) w = refl
  bad (field_value ns c e f) w = refl
  bad (closing ns a) w = refl

  -- ---- what follows for each state

  module _ (s : State) where
    pub takes : (ls : List Lexeme) (e : Asked) (after : List Lexeme) → run (turned cs) s ls ≡ taken e after → Takes (left s) ls e after
    takes = run-takes (turned cs) Rest left some see does bad s

    pub none : (ls back : List Lexeme) (c : Cause) → run (turned cs) s ls ≡ stopped c back → TakesNone (left s) ls
    none = stopped_none (turned cs) Rest left some see does bad s

    pub broken : (ls back : List Lexeme) (end : ℕ) (c : Cause) (p : ℕ) → run (turned cs) s ls ≡ stopped c back → p ≡ place_of end back → Broken (left s) ls end c p
    broken = run-broken (turned cs) Rest left some see does bad s

    pub fewer : (ls : List Lexeme) (e : Asked) (after : List Lexeme) → Takes (left s) ls e after → length after < length ls
    fewer = takes_fewer (turned cs) Rest left some see does bad s

    pub one-fits : OneAnswer (left s)
    one-fits = one_answer (turned cs) Rest left some see does bad s
