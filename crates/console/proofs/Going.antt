-- A session goes on by one form, and ends. Assumes nothing.
use Rattle.std.proofs.Common.{◌≡◌, ℕ, ◌<◌, Bool, true, List, [], ◌∷◌, ◌++◌, length, Some, Ok, Err, codes, Option, Result, sym, refl, ap, ◌∙◌, subst, append_assoc}
use Rattle.std.proofs.lemmas.List.{append-nil}
use Rattle.words.specs.Words.{Lexeme, words_of}
use Rattle.facts.specs.Model.{Model}
use Rattle.rules.specs.Attributes.{Declared}
use Rattle.reader.specs.declared.form.Command.{Command}
use Rattle.languages.specs.declared.refusal.Refusal.{Refusal}
use Rattle.reader.specs.declared.form.Phase.TheVariants.{Declaring, Commanding}
use Rattle.reader.specs.Forms.{declares, commands}
use Rattle.reader.specs.Meaning.{act_of}
use Rattle.reader.specs.Reading.{ReadsCommand}
use Rattle.reader.proofs.Answering.{takes_fewer}
use Rattle.console.specs.Printed.{Appends}
use Rattle.console.specs.Performed.{after_command, Prints}
use Rattle.console.specs.Sessions.{Reached, reached, Reading, Leads, DeclaresAll, start, Given, given, ReadsAll, after_all, PrintsAll, Ends, Left, left, Commands}

-- one declaration more
pub leads_more : (end : ℕ) (p : Reached) (steps : List Reached) (q r : Reached) → Leads end p steps q → Reading end q (Ok true) r → Leads end p (steps ++ r ∷ []) r
leads_more end p [] q r h g = (subst (λ x. Reading end x (Ok true) r) (sym h) g, refl)
leads_more end p (s ∷ steps) q r h g = (h.0, leads_more end s steps q r h.1 g)

-- commands went before: they were read from the text, printed what was printed since, and left the memory as it is now
pub record Went (end : ℕ) (classes : List Declared) (ns : List (List ℕ)) (ls : List Lexeme) (before : Model) (start : List ℕ) (ms : List (List ℕ)) (after : List Lexeme) (m : Model) (out : List ℕ) : Type 0 where
  pub commands : List Given
  pub printed : List ℕ
  pub written : out ≡ start ++ printed
  pub read : ReadsAll end classes ns ls commands ms after
  pub prints : PrintsAll classes before commands printed
  pub memory : m ≡ after_all before commands

after_push : (m : Model) (gs : List Given) (g : Given) → after_all m (gs ++ g ∷ []) ≡ after_command (after_all m gs) g.command
after_push m [] g = refl
after_push m (h ∷ gs) g = after_push (after_command m h.command) gs g

prints_push : (classes : List Declared) (m : Model) (gs : List Given) (g : Given) (printed more : List ℕ) → PrintsAll classes m gs printed → Prints g.names classes (after_all m gs) g.command more → PrintsAll classes m (gs ++ g ∷ []) (printed ++ more)
prints_push classes m [] g printed more p q = (more, [], ap (λ x. x ++ more) p ∙ sym (append-nil more), q, refl)
prints_push classes m (h ∷ gs) g printed more p q = (
  p.0,
  p.1 ++ more,
  ap (λ x. x ++ more) p.2 ∙ append_assoc p.0 p.1 more,
  p.3,
  prints_push classes (after_command m h.command) gs g p.1 more p.4 q,
)

reads_push : (end : ℕ) (classes : List Declared) (gs : List Given) (ns ms : List (List ℕ)) (ls after : List Lexeme) (g : Given) → ReadsAll end classes ns ls gs ms after → ReadsCommand end classes ms after (Ok (Some g.command)) g.names g.left → ReadsAll end classes ns ls (gs ++ g ∷ []) g.names g.left
reads_push end classes [] ns ms ls after g h r =
    (subst (λ x. ReadsCommand end classes x ls (Ok (Some g.command)) g.names g.left) (sym h.0) (subst (λ x. ReadsCommand end classes ms x (Ok (Some g.command)) g.names g.left) (sym h.1) r), (refl, refl))
reads_push end classes (f ∷ gs) ns ms ls after g h r = (h.0, reads_push end classes gs f.names ms f.left after g h.1 r)

module _ (end : ℕ) (classes : List Declared) (ns : List (List ℕ)) (ls : List Lexeme) (before : Model) (start : List ℕ) (ms : List (List ℕ)) (after : List Lexeme) (m : Model) (out : List ℕ) (w : Went end classes ns ls before start ms after m out) where
  -- one command more
  pub went_more : (ks : List (List ℕ)) (left : List Lexeme) (m' : Model) (out' : List ℕ) (command : Command) → ReadsCommand end classes ms after (Ok (Some command)) ks left → m' ≡ after_command m command → Appends out out' (Prints ks classes m command) → Went end classes ns ls before start ks left m' out'
  went_more ks left m' out' command r a p =
      record {
        commands = w.commands ++ given command ks left ∷ [];
        printed = w.printed ++ p.0;
        written = p.1 ∙ ap (λ x. x ++ p.0) w.written ∙ append_assoc start w.printed p.0;
        read = reads_push end classes w.commands ns ms ls after (given command ks left) w.read r;
        prints = prints_push classes before w.commands (given command ks left) w.printed p.0 w.prints (subst (λ x. Prints ks classes x command p.0) w.memory p.2);
        memory = a ∙ ap (λ x. after_command x command) w.memory ∙ sym (after_push before w.commands (given command ks left));
      }

  -- the end
  pub went_all : (ks : List (List ℕ)) (rest : List Lexeme) (out' tail : List ℕ) → out' ≡ out ++ tail → Ends end classes ms after tail ks rest → Appends start out' (Commands end classes (left ns ls before) (left ks rest m))
  went_all ks rest out' tail e ends =
      (w.printed ++ tail, e ∙ ap (λ x. x ++ tail) w.written ∙ append_assoc start w.printed tail, (w.commands, w.printed, tail, ms, after, refl, w.read, w.prints, ends, w.memory))

-- commands that begin with nothing printed
pub commands-whole : (e f : ℕ) (classes cs : List Declared) (ns : List (List ℕ)) (ls : List Lexeme) (m m' : Model) (q : Left) (begun out : List ℕ) → e ≡ f → begun ≡ [] → classes ≡ cs → m ≡ m' → Appends begun out (Commands e classes (left ns ls m) q) → Commands f cs (left ns ls m') q out
commands-whole e f classes cs ns ls m m' q begun out same none c is a =
    subst (λ x. Commands x cs (left ns ls m') q out) same
    (subst (λ x. Commands e x (left ns ls m') q out) c
    (subst (λ x. Commands e classes (left ns ls x) q out) is
    (subst (Commands e classes (left ns ls m) q) (sym (a.1 ∙ ap (λ x. x ++ a.0) none)) a.2)))

-- ---- what a call answered, of the whole text

module _ (e f : ℕ) (same : e ≡ f) where
  pub read_more : (p q : Reached) (b : Bool) → b ≡ true → Reading e p (Ok b) q → Reading f p (Ok true) q
  read_more p q b t r = subst (λ x. Reading f p (Ok x) q) t (subst (λ x. Reading x p (Ok b) q) same r)

  pub commanded : (classes : List Declared) (ns ms : List (List ℕ)) (ls after : List Lexeme) (o p : Option Command) → o ≡ p → ReadsCommand e classes ns ls (Ok o) ms after → ReadsCommand f classes ns ls (Ok p) ms after
  commanded classes ns ms ls after o p t r = subst (λ x. ReadsCommand f classes ns ls (Ok x) ms after) t (subst (λ x. ReadsCommand x classes ns ls (Ok o) ms after) same r)

  pub not_commanded : (classes : List Declared) (ns ms : List (List ℕ)) (ls after : List Lexeme) (x : Refusal) → ReadsCommand e classes ns ls (Err x) ms after → ReadsCommand f classes ns ls (Err x) ms after
  not_commanded classes ns ms ls after x r = subst (λ k. ReadsCommand k classes ns ls (Err x) ms after) same r

-- each form leaves fewer words
pub fewer_left : (end : ℕ) (p q : Reached) → Reading end p (Ok true) q → length q.left < length p.left
fewer_left end p q r = takes_fewer Declaring p.classes p.names p.left (declares r.2.0, q.names) q.left r.2.1

pub fewer_commands : (end : ℕ) (classes : List Declared) (ns ms : List (List ℕ)) (ls after : List Lexeme) (c : Command) → ReadsCommand end classes ns ls (Ok (Some c)) ms after → length after < length ls
fewer_commands end classes ns ms ls after c r = takes_fewer Commanding classes ns ls (commands (act_of c), ms) after r.1

-- ---- the whole session

-- what was read of a text of `end` bytes before it was read is its start
pub from_start : (text : List ℕ) (end : ℕ) (classes : List Declared) (names : List (List ℕ)) (left : List Lexeme) (answer : Result (Unit {0}) Refusal) (q : Reached) → end ≡ length text → classes ≡ [] → names ≡ codes "nil" ∷ [] → left ≡ words_of text → DeclaresAll end (reached classes names left) answer q → DeclaresAll (length text) (start text) answer q
from_start text end classes names left answer q e c n l d =
    subst (λ x. DeclaresAll x (start text) answer q) e (subst (λ x. DeclaresAll end x answer q) (λ i. reached (c i) (n i) (l i)) d)
