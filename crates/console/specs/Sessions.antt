-- What a whole session does and prints, from the bytes of its text. Assumes nothing.
use Rattle.std.specs.Prelude.{◌≡◌, ℕ, Bool, true, false, ◌⊎◌, List, [], ◌∷◌, ◌++◌, length, Some, None, Ok, Err, codes, Result}
use Rattle.words.specs.Words.{Lexeme, words_of}
use Rattle.facts.specs.Model.{Model, model}
use Rattle.rules.specs.Attributes.{Declared}
use Rattle.reader.specs.declared.form.Command.{Command}
use Rattle.languages.specs.declared.refusal.Refusal.{Refusal}
use Rattle.reader.specs.Reading.{ReadsDeclaration, ReadsCommand}
use Rattle.console.specs.Printed.{reader_refused}
use Rattle.console.specs.Performed.{after_command, Prints}

-- ---- declarations

-- how far a text was read: the classes and the names so far, and the words that are left
pub record Reached : Type 0 where
  pub classes : List Declared
  pub names : List (List ℕ)
  pub left : List Lexeme

-- the same from its parts
abbrev pub reached : List Declared → List (List ℕ) → List Lexeme → Reached
reached classes names left = record { classes = classes; names = names; left = left }

-- what reading a declaration of a text of `end` bytes answers at one point, and the point that it leads to
abbrev pub Reading : ℕ → Reached → Result Bool Refusal → Reached → Type 0
Reading end p answer q =
    ReadsDeclaration end p.classes p.names p.left answer q.classes q.names q.left

-- declarations read one after the other lead from the first point to the last
abbrev pub Leads : ℕ → Reached → List Reached → Reached → Type 0
Leads end p [] q = p ≡ q
Leads end p (s ∷ steps) q = Reading end p (Ok true) s × Leads end s steps q

-- the answer of the last call: no declaration is left, or a refusal
abbrev pub last_answer : Result (Unit {0}) Refusal → Result Bool Refusal
last_answer (Ok _) = Ok false
last_answer (Err refusal) = Err refusal

-- all declarations are read, from one point to another
abbrev pub DeclaresAll : ℕ → Reached → Result (Unit {0}) Refusal → Reached → Type 0
DeclaresAll end p answer q = (steps : List Reached) × (last : Reached) × Leads end p steps last × Reading end last (last_answer answer) q

-- ---- commands

-- a command that was read, and the names and the words left then
pub record Given : Type 0 where
  pub command : Command
  pub names : List (List ℕ)
  pub left : List Lexeme

-- the same from its parts
abbrev pub given : Command → List (List ℕ) → List Lexeme → Given
given command names left = record { command = command; names = names; left = left }

-- commands read one after the other
abbrev pub ReadsAll : ℕ → List Declared → List (List ℕ) → List Lexeme → List Given → List (List ℕ) → List Lexeme → Type 0
ReadsAll end classes ns ls [] ms after = (ns ≡ ms) × (ls ≡ after)
ReadsAll end classes ns ls (g ∷ others) ms after =
    ReadsCommand end classes ns ls (Ok (Some g.command)) g.names g.left × ReadsAll end classes g.names g.left others ms after

-- the memory after commands, one after the other
abbrev pub after_all : Model → List Given → Model
after_all m [] = m
after_all m (g ∷ others) = after_all (after_command m g.command) others

-- the bytes are what commands print, one after the other, each on the memory that those before it left
abbrev pub PrintsAll : List Declared → Model → List Given → List ℕ → Type 0
PrintsAll classes m [] bytes = bytes ≡ []
PrintsAll classes m (g ∷ others) bytes =
    (first : List ℕ) × (further : List ℕ) × (bytes ≡ first ++ further) × Prints g.names classes m g.command first
    × PrintsAll classes (after_command m g.command) others further

-- how commands end, with the names and the words left then: no command is left and nothing more is printed, or the next
-- one is refused and the refusal is printed
abbrev pub Ends : ℕ → List Declared → List (List ℕ) → List Lexeme → List ℕ → List (List ℕ) → List Lexeme → Type 0
Ends end classes ns ls bytes ms after =
    (ReadsCommand end classes ns ls (Ok None) ms after × (bytes ≡ []))
    ⊎ ((refusal : Refusal) × ReadsCommand end classes ns ls (Err refusal) ms after × (bytes ≡ reader_refused refusal))

-- where commands have come to: the names, the words left, and the memory
pub record Left : Type 0 where
  pub names : List (List ℕ)
  pub words : List Lexeme
  pub memory : Model

-- the same from its parts
abbrev pub left : List (List ℕ) → List Lexeme → Model → Left
left names words memory = record { names = names; words = words; memory = memory }

-- the bytes are what the commands of a text of `end` bytes print from one point to the last
abbrev pub Commands : ℕ → List Declared → Left → Left → List ℕ → Type 0
Commands end classes p q bytes =
    (commands : List Given) × (printed : List ℕ) × (tail : List ℕ) × (ms : List (List ℕ)) × (after : List Lexeme)
    × (bytes ≡ printed ++ tail) × ReadsAll end classes p.names p.words commands ms after × PrintsAll classes p.memory commands printed
    × Ends end classes ms after tail q.names q.words × (q.memory ≡ after_all p.memory commands)

-- ---- the whole

-- before anything is read: no class, and `nil` as the only name
abbrev pub start : List ℕ → Reached
start text = reached [] (codes "nil" ∷ []) (words_of text)

-- what follows the declarations: the commands, on an empty memory of 256 places that has given no tag; or the refusal
abbrev pub Follows : ℕ → Result (Unit {0}) Refusal → Reached → List ℕ → Type 0
Follows end (Ok _) p bytes = (q : Left) × Commands end p.classes (left p.names p.left (model [] 0 256)) q bytes
Follows end (Err refusal) p bytes = bytes ≡ reader_refused refusal

-- the bytes are what the session of a text prints
abbrev pub Session : List ℕ → List ℕ → Type 0
Session text bytes =
    (answer : Result (Unit {0}) Refusal) × (p : Reached) × DeclaresAll (length text) (start text) answer p × Follows (length text) answer p bytes
