-- What one byte does to the words that are left. Assumes nothing.
use Rattle.std.proofs.Common.{◌≡◌, ℕ, ◌+◌, ◌-◌, ◌<◌, ◌≤◌, List, [], ◌∷◌, ◌++◌, length, get_or, take, drop, sym, ap, ◌∙◌, arith, length-drop, get_or-drop}
use Rattle.std.proofs.lemmas.List.{take_more, drop_more}
use Rattle.words.specs.Bytes.{class_of}
use Rattle.words.specs.declared.text.turn.Turn.{Turn}
use Rattle.words.specs.declared.text.turn.Turn.TheVariants.{Pass, Single, Ended}
use Rattle.words.specs.Words.{plain, single, moved, turned, Mode, between, within, comment, ends, goes, scan, Lexeme}
use Rattle.words.specs.declared.bytes.Class.{Class}
use Rattle.words.specs.declared.bytes.Class.TheVariants.{Blank, Feed, Mark, Semicolon, Plain, Strange}
use Rattle.words.specs.declared.text.State.{State}
use Rattle.words.specs.declared.text.State.TheVariants.{Between, Within, Comment}

-- the mode of a reader that stands at a place
abbrev pub mode : List ℕ → ℕ → State → Mode
mode text at Between = between
mode text at (Within start) = within start (take (at - start) (drop start text))
mode text at Comment = comment

-- the words of a text that are left at a place, in a state
abbrev pub left : List ℕ → ℕ → State → List Lexeme
left text at state = scan (mode text at state) at (drop at text)

-- how far the reader has come at least: past the first byte of the plain word that it is in
abbrev pub begun : State → ℕ
begun Between = 0
begun (Within start) = start + 1
begun Comment = 0

-- a part of a text, and one byte more
pub one_more : (t : List ℕ) (s p : ℕ) → s ≤ p → p < length t → take (p + 1 - s) (drop s t) ≡ take (p - s) (drop s t) ++ get_or t p 0 ∷ []
one_more t s p h k =
    let e : p + 1 - s ≡ p - s + 1 = omega arith in
    let f : s + (p - s) ≡ p = omega arith in
    let g : p - s < length (drop s t) = simp length-drop (omega arith) in
    ap (λ n. take n (drop s t)) e ∙ take_more (drop s t) (p - s) 0 g ∙ ap (λ b. take (p - s) (drop s t) ++ b ∷ []) (get_or-drop s t (p - s) 0 ∙ ap (λ n. get_or t n 0) f)

-- the byte at p as the part from p to p + 1
pub one_byte : (t : List ℕ) (p : ℕ) → p < length t → take (p + 1 - p) (drop p t) ≡ get_or t p 0 ∷ []
one_byte t p h =
    let e : p - p ≡ 0 = omega arith in
    one_more t p p (omega arith) h ∙ ap (λ n. take n (drop p t) ++ get_or t p 0 ∷ []) e

-- the words left at p, by what the byte there is
byte :
    (t : List ℕ) (p : ℕ) (m : Mode) (c : Class) → p < length t → class_of (get_or t p 0) ≡ c
    → scan m p (drop p t) ≡ ends m c p (get_or t p 0) ++ scan (goes m c p (get_or t p 0)) (p + 1) (drop (p + 1) t)
byte t p m c h e = ap (scan m p) (drop_more t p 0 h) ∙ ap (λ k. ends m k p (get_or t p 0) ++ scan (goes m k p (get_or t p 0)) (p + 1) (drop (p + 1) t)) e

-- what a turn says of the words that are left
abbrev pub Follows : List ℕ → ℕ → State → State → Turn → Type 0
Follows t p st st' Pass = left t p st ≡ left t (p + 1) st'
Follows t p st st' Single = left t p st ≡ single p (get_or t p 0) ∷ left t (p + 1) Between
Follows t p st st' (Ended s) = left t p st ≡ plain s (take (p - s) (drop s t)) ∷ left t p Between

follows :
    (t : List ℕ) (p : ℕ) (st : State) (c : Class) → p < length t → begun st ≤ p → class_of (get_or t p 0) ≡ c
    → Follows t p st (moved st c p) (turned st c)
follows t p Between Blank h k e = byte t p between Blank h e
follows t p Between Feed h k e = byte t p between Feed h e
follows t p Between Mark h k e = byte t p between Mark h e
follows t p Between Semicolon h k e = byte t p between Semicolon h e
follows t p Between Plain h k e = byte t p between Plain h e ∙ ap (λ w. scan (within p w) (p + 1) (drop (p + 1) t)) (sym (one_byte t p h))
follows t p Between Strange h k e = byte t p between Strange h e
follows t p (Within s) Blank h k e = byte t p (within s _) Blank h e ∙ ap (λ l. plain s (take (p - s) (drop s t)) ∷ l) (sym (byte t p between Blank h e))
follows t p (Within s) Feed h k e = byte t p (within s _) Feed h e ∙ ap (λ l. plain s (take (p - s) (drop s t)) ∷ l) (sym (byte t p between Feed h e))
follows t p (Within s) Mark h k e = byte t p (within s _) Mark h e ∙ ap (λ l. plain s (take (p - s) (drop s t)) ∷ l) (sym (byte t p between Mark h e))
follows t p (Within s) Semicolon h k e = byte t p (within s _) Semicolon h e ∙ ap (λ l. plain s (take (p - s) (drop s t)) ∷ l) (sym (byte t p between Semicolon h e))
follows t p (Within s) Plain h k e = byte t p (within s _) Plain h e ∙ ap (λ w. scan (within s w) (p + 1) (drop (p + 1) t)) (sym (one_more t s p (omega arith) h))
follows t p (Within s) Strange h k e = byte t p (within s _) Strange h e ∙ ap (λ l. plain s (take (p - s) (drop s t)) ∷ l) (sym (byte t p between Strange h e))
follows t p Comment Blank h k e = byte t p comment Blank h e
follows t p Comment Feed h k e = byte t p comment Feed h e
follows t p Comment Mark h k e = byte t p comment Mark h e
follows t p Comment Semicolon h k e = byte t p comment Semicolon h e
follows t p Comment Plain h k e = byte t p comment Plain h e
follows t p Comment Strange h k e = byte t p comment Strange h e

pub step :
    (t : List ℕ) (p : ℕ) (st st' : State) (c : Class) (n : Turn) → p < length t → begun st ≤ p
    → c ≡ class_of (get_or t p 0) → n ≡ turned st c → st' ≡ moved st c p → Follows t p st st' n
step t p st st' c n h k f g d = rw (g, d) (follows t p st c h k (sym f))
