-- The words of a rule text. Assumes nothing.
use Rattle.std.specs.Prelude.{◌≡◌, ℕ, ◌+◌, List, [], ◌∷◌, ◌++◌, drop, Some, None, Option}
use Rattle.words.specs.Bytes.{class_of}
use Rattle.words.specs.declared.bytes.Class.{Class}
use Rattle.words.specs.declared.bytes.Class.TheVariants.{Blank, Feed, Mark, Semicolon, Plain, Strange}
use Rattle.words.specs.declared.text.State.{State}
use Rattle.words.specs.declared.text.State.TheVariants.{Between, Within, Comment}
use Rattle.words.specs.Kinds.{Kind, kind_of, mark_kind, word_kind}
use Rattle.words.specs.declared.text.turn.Turn.{Turn}
use Rattle.words.specs.declared.text.turn.Turn.TheVariants.{Pass, Single, Ended}
use Rattle.words.specs.declared.token.Word.{Word}
use Rattle.words.specs.declared.text.Words.{Words}

-- a word by its place and its kind
pub record Lexeme : Type 0 where
  pub place : ℕ
  pub kind : Kind

-- a plain word at a place
abbrev pub plain : ℕ → List ℕ → Lexeme
plain p w = record { place = p; kind = word_kind w }

-- the byte at a place as a word by itself
abbrev pub single : ℕ → ℕ → Lexeme
single p b = record { place = p; kind = mark_kind b }

-- between words, in a plain word that began at a place and has these bytes so far, or in a comment
pub data Mode : Type 0 where
  between : Mode
  within : ℕ → List ℕ → Mode
  comment : Mode

-- the words that end at the byte b of place p: a plain word before it, and the byte by itself
abbrev pub ends : Mode → Class → ℕ → ℕ → List Lexeme
ends between Blank p b = []
ends between Feed p b = []
ends between Mark p b = single p b ∷ []
ends between Semicolon p b = []
ends between Plain p b = []
ends between Strange p b = single p b ∷ []
ends (within s w) Blank p b = plain s w ∷ []
ends (within s w) Feed p b = plain s w ∷ []
ends (within s w) Mark p b = plain s w ∷ single p b ∷ []
ends (within s w) Semicolon p b = plain s w ∷ []
ends (within s w) Plain p b = []
ends (within s w) Strange p b = plain s w ∷ single p b ∷ []
ends comment c p b = []

-- the mode after that byte
abbrev pub goes : Mode → Class → ℕ → ℕ → Mode
goes between Blank p b = between
goes between Feed p b = between
goes between Mark p b = between
goes between Semicolon p b = comment
goes between Plain p b = within p (b ∷ [])
goes between Strange p b = between
goes (within s w) Blank p b = between
goes (within s w) Feed p b = between
goes (within s w) Mark p b = between
goes (within s w) Semicolon p b = comment
goes (within s w) Plain p b = within s (w ++ b ∷ [])
goes (within s w) Strange p b = between
goes comment Blank p b = comment
goes comment Feed p b = between
goes comment Mark p b = comment
goes comment Semicolon p b = comment
goes comment Plain p b = comment
goes comment Strange p b = comment

-- the word that ends with the text
abbrev pub last : Mode → List Lexeme
last between = []
last (within s w) = plain s w ∷ []
last comment = []

-- the words of the bytes from place p on
abbrev pub scan : Mode → ℕ → List ℕ → List Lexeme
scan m p [] = last m
scan m p (b ∷ bs) = ends m (class_of b) p b ++ scan (goes m (class_of b) p b) (p + 1) bs

-- the words of a text
abbrev pub words_of : List ℕ → List Lexeme
words_of text = scan between 0 text

-- the reader's state after it looked at a byte; the byte that ends a plain word is looked at again
abbrev pub moved : State → Class → ℕ → State
moved Between Blank at = Between
moved Between Feed at = Between
moved Between Mark at = Between
moved Between Semicolon at = Comment
moved Between Plain at = Within at
moved Between Strange at = Between
moved (Within s) Blank at = Between
moved (Within s) Feed at = Between
moved (Within s) Mark at = Between
moved (Within s) Semicolon at = Between
moved (Within s) Plain at = Within s
moved (Within s) Strange at = Between
moved Comment Blank at = Comment
moved Comment Feed at = Between
moved Comment Mark at = Comment
moved Comment Semicolon at = Comment
moved Comment Plain at = Comment
moved Comment Strange at = Comment

-- what it tells of that byte
abbrev pub turned : State → Class → Turn
turned Between Blank = Pass
turned Between Feed = Pass
turned Between Mark = Single
turned Between Semicolon = Pass
turned Between Plain = Pass
turned Between Strange = Single
turned (Within s) Blank = Ended s
turned (Within s) Feed = Ended s
turned (Within s) Mark = Ended s
turned (Within s) Semicolon = Ended s
turned (Within s) Plain = Pass
turned (Within s) Strange = Ended s
turned Comment c = Pass

-- the text that the reader reads
abbrev pub text_of : Words → List ℕ
text_of r = r.text.now

-- the words that the reader has still to give
abbrev pub rest : Words → List Lexeme
rest r = scan between r.at (drop r.at (text_of r))

-- a word of the code by its place and its kind
abbrev pub lexeme : Word → Lexeme
lexeme w = record { place = w.place; kind = kind_of w.token }

-- what was left before a call, its answer, and what is left after it: the answer is the first word of what was left,
-- or none where none was left
abbrev pub Gave : List Lexeme → Option Word → List Lexeme → Type 0
Gave before None after = (before ≡ []) × (after ≡ [])
Gave before (Some w) after = before ≡ lexeme w ∷ after
