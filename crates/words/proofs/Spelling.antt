-- The bytes of a plain word. Assumes nothing.
use Rattle.std.proofs.Common.{◌≡◌, ℕ, Bool, true, false, cond, List, Some, Option, ℤ, Ok, Err, Result, sym, refl, ap, ◌∙◌}
use Rattle.std.specs.Str.{bytes_eq}
use Rattle.std.proofs.lemmas.Slice.Eq.{bytes_eq-Decides}
use Rattle.words.specs.declared.numbers.NotANumber.{NotANumber}
use Rattle.words.specs.declared.numbers.NotANumber.TheVariants.{NoForm, OutOfRange}
use Rattle.words.specs.declared.token.Predicate.{Predicate}
use Rattle.words.specs.declared.token.Predicate.TheVariants.{Equal, Unequal, Less, AtMost, Greater, AtLeast, SameKind}
use Rattle.words.specs.Kinds.{Kind, minus, arrow, open_choice, close_choice, variable, symbol, illegal, predicate, spelled, pointed, is_variable, predicate_of, or_predicate, named_kind, number_kind, word_kind}
use Rattle.words.specs.Numbers.{numeral}

-- a kind that has a word's bytes
Spells : List ℕ → Kind → Type 0
Spells w k = spelled k ≡ w

-- where a test finds that the word has these bytes
if_word : (w : List ℕ) (j k : Kind) → Spells w k → Spells w (cond (bytes_eq w (spelled j)) j k)
unfolding Spells
if_word w j k h = go (bytes_eq w (spelled j)) refl
  where
    go : (b : Bool) → bytes_eq w (spelled j) ≡ b → spelled (cond b j k) ≡ w
    go true t = sym ((bytes_eq-Decides w (spelled j)).0 t)
    go false t = h

-- and where it finds a predicate
if-predicate :
    (w : List ℕ) (p : Predicate) (o : Option Predicate) (k : Kind) → Spells w (or_predicate o k)
    → Spells w (or_predicate (cond (bytes_eq w (predicate p)) (Some p) o) k)
unfolding Spells
if-predicate w p o k h = go (bytes_eq w (predicate p)) refl
  where
    go : (b : Bool) → bytes_eq w (predicate p) ≡ b → spelled (or_predicate (cond b (Some p) o) k) ≡ w
    go true t = sym ((bytes_eq-Decides w (predicate p)).0 t)
    go false t = h

-- either way of a test
either : (b : Bool) (w : List ℕ) (j k : Kind) → Spells w j → Spells w k → Spells w (cond b j k)
either true w j k h g = h
either false w j k h g = g

-- a predicate, or else another kind
predicate-bytes : (w : List ℕ) (k : Kind) → Spells w k → Spells w (or_predicate (predicate_of w) k)
predicate-bytes w k h =
    if-predicate w Equal _ k
    (if-predicate w Unequal _ k
    (if-predicate w Less _ k
    (if-predicate w AtMost _ k
    (if-predicate w Greater _ k (if-predicate w AtLeast _ k (if-predicate w SameKind _ k h))))))

-- a word that is no number
named_bytes : (w : List ℕ) → Spells w (variable w) → Spells w (symbol w) → Spells w (named_kind w)
named_bytes w v s =
    if_word w minus _
    (if_word w arrow _
    (if_word w open_choice _
    (if_word w close_choice _ (predicate-bytes w _ (either (is_variable w) w (variable w) (symbol w) v s)))))

-- any word, by what it is as a number
number-bytes : (w : List ℕ) (n : Result ℤ NotANumber) → Spells w (number_kind w n)
unfolding Spells
number-bytes w (Ok n) = refl
number-bytes w (Err OutOfRange) = refl
number-bytes w (Err NoForm) = either (pointed w) w (illegal w) (named_kind w) refl (named_bytes w refl refl)

-- a plain word's kind has the word's bytes
pub word_bytes : (w : List ℕ) → spelled (word_kind w) ≡ w
unfolding Spells
word_bytes w = number-bytes w (numeral w)

-- a word that is no number and has no comma and no period
pub named_word : (w : List ℕ) (k : Kind) → k ≡ named_kind w → Err NoForm ≡ numeral w → false ≡ pointed w → k ≡ word_kind w
named_word w k h n p = h ∙ ap (λ b. cond b (illegal w) (named_kind w)) p ∙ ap (number_kind w) n
