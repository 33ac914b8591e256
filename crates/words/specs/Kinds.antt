-- The kinds of words. Assumes nothing.
use Rattle.std.specs.Prelude.{ℕ, ◌-◌, Bool, cond, ◌&&◌, ◌||◌, List, [], ◌∷◌, length, ℤ, Some, None, Option, Ok, Err, Result, ◌==◌, nat_le, slice_index}
use Rattle.std.specs.List.{list_any}
use Rattle.std.specs.Str.{bytes_eq}
use Rattle.words.specs.declared.numbers.NotANumber.{NotANumber}
use Rattle.words.specs.declared.numbers.NotANumber.TheVariants.{NoForm, OutOfRange}
use Rattle.words.specs.declared.token.Predicate.{Predicate}
use Rattle.words.specs.declared.token.Predicate.TheVariants.{Equal, Unequal, Less, AtMost, Greater, AtLeast, SameKind}
use Rattle.words.specs.declared.token.Token.{Token}
use Rattle.words.specs.declared.token.Token.TheVariants.{Open, Close, Hat, Minus, Arrow, OpenChoice, CloseChoice, Test, Number, Variable, Symbol, Illegal}
use Rattle.words.specs.Numbers.{numeral}

-- a token, with its bytes themselves where the token borrows them: a number has its value and its bytes
pub data Kind : Type 0 where
  open' close' hat minus arrow open_choice close_choice : Kind
  test : Predicate → Kind
  number : ℤ → List ℕ → Kind
  variable symbol illegal : List ℕ → Kind

-- the kind of a token
abbrev pub kind_of : Token → Kind
kind_of Open = open'
kind_of Close = close'
kind_of Hat = hat
kind_of Minus = minus
kind_of Arrow = arrow
kind_of OpenChoice = open_choice
kind_of CloseChoice = close_choice
kind_of (Test p) = test p
kind_of (Number n b) = number n b.now
kind_of (Variable b) = variable b.now
kind_of (Symbol b) = symbol b.now
kind_of (Illegal b) = illegal b.now

-- the bytes of a predicate: `=`, `<>`, `<`, `<=`, `>`, `>=` and `<=>`
abbrev pub predicate : Predicate → List ℕ
predicate Equal = 61 ∷ []
predicate Unequal = 60 ∷ 62 ∷ []
predicate Less = 60 ∷ []
predicate AtMost = 60 ∷ 61 ∷ []
predicate Greater = 62 ∷ []
predicate AtLeast = 62 ∷ 61 ∷ []
predicate SameKind = 60 ∷ 61 ∷ 62 ∷ []

-- the bytes of a word: fixed for a mark, a special word or a predicate, else as they were written
abbrev pub spelled : Kind → List ℕ
spelled open' = 40 ∷ []
spelled close' = 41 ∷ []
spelled hat = 94 ∷ []
spelled minus = 45 ∷ []
spelled arrow = 45 ∷ 45 ∷ 62 ∷ []
spelled open_choice = 60 ∷ 60 ∷ []
spelled close_choice = 62 ∷ 62 ∷ []
spelled (test p) = predicate p
spelled (number n w) = w
spelled (variable w) = w
spelled (symbol w) = w
spelled (illegal w) = w

-- the kind of a byte that is a word by itself: `(`, `)`, `^`, or a byte that no word may hold
abbrev pub mark_kind : ℕ → Kind
mark_kind b = cond (b == 40) open' (cond (b == 41) close' (cond (b == 94) hat (illegal (b ∷ []))))

-- whether a comma or a period stands in a word
abbrev pub pointed : List ℕ → Bool
pointed w = list_any (λ b. b == 44 || b == 46) w

-- three bytes or more, the first `<` and the last `>`
abbrev pub is_variable : List ℕ → Bool
is_variable w = nat_le 3 (length w) && (slice_index w 0 == 60 && slice_index w (length w - 1) == 62)

-- the predicate that a word is
abbrev pub predicate_of : List ℕ → Option Predicate
predicate_of w =
    cond (bytes_eq w (predicate Equal)) (Some Equal)
    (cond (bytes_eq w (predicate Unequal)) (Some Unequal)
    (cond (bytes_eq w (predicate Less)) (Some Less)
    (cond (bytes_eq w (predicate AtMost)) (Some AtMost)
    (cond (bytes_eq w (predicate Greater)) (Some Greater)
    (cond (bytes_eq w (predicate AtLeast)) (Some AtLeast)
    (cond (bytes_eq w (predicate SameKind)) (Some SameKind) None))))))

-- a predicate, or else another kind
abbrev pub or_predicate : Option Predicate → Kind → Kind
or_predicate (Some p) k = test p
or_predicate None k = k

-- the kind of a plain word that is no number and has no comma and no period
abbrev pub named_kind : List ℕ → Kind
named_kind w =
    cond (bytes_eq w (spelled minus)) minus
    (cond (bytes_eq w (spelled arrow)) arrow
    (cond (bytes_eq w (spelled open_choice)) open_choice
    (cond (bytes_eq w (spelled close_choice)) close_choice
    (or_predicate (predicate_of w) (cond (is_variable w) (variable w) (symbol w))))))

-- the kind of a plain word, given what it is as a number
abbrev pub number_kind : List ℕ → Result ℤ NotANumber → Kind
number_kind w (Ok n) = number n w
number_kind w (Err OutOfRange) = illegal w
number_kind w (Err NoForm) = cond (pointed w) (illegal w) (named_kind w)

-- the kind of a plain word, by its bytes
abbrev pub word_kind : List ℕ → Kind
word_kind w = number_kind w (numeral w)
