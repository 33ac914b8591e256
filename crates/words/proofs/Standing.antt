-- The words that the scan gives are exactly those that stand in the text. Assumes nothing.
use Rattle.std.proofs.Common.{◌≡◌, ℕ, ◌+◌, ◌-◌, ◌<◌, ◌≤◌, not, T, eqb, ◌⊎◌, List, [], ◌∷◌, ◌++◌, length, get_or, take, drop, sym, refl, ap, ◌∙◌, subst, inl, inr, ⊎_elim, arith, length-drop}
use Rattle.std.proofs.lemmas.List.{drop_more}
use Rattle.std.proofs.lemmas.Bool.{cases_lt, cases_order, eq-eqb}
use Rattle.std.proofs.lemmas.Bool.Decides.{nat_tests}
use Rattle.words.specs.Bytes.{class_of}
use Rattle.words.specs.declared.bytes.Class.{Class}
use Rattle.words.specs.declared.bytes.Class.TheVariants.{Blank, Feed, Mark, Semicolon, Plain, Strange}
use Rattle.words.specs.Kinds.{Kind, mark_kind, word_kind}
use Rattle.words.specs.Words.{Lexeme, plain, single, Mode, between, within, comment, ends, goes, scan, words_of}
use Rattle.words.specs.Law.{Is, Commented, WordAt, Has, Rising, AreWords}
use Rattle.words.proofs.Scans.{one_more, one_byte}

-- Classes. No byte has two. They are told apart by numbers, so that `tt` shows at each use that two classes differ.
abbrev code : Class → ℕ
code Blank = 0
code Feed = 1
code Mark = 2
code Semicolon = 3
code Plain = 4
code Strange = 5

abbrev Differ : Class → Class → Type 0
Differ c d = T (not (eqb (code c) (code d)))

apart : {b c d : Class} → b ≡ c → b ≡ d → Differ c d → ⊥
apart {b} {c} {d} h g n = let e = eq-eqb (code c) (code d) (ap code (sym h ∙ g)) in rw e at n

semicolon : (b : ℕ) → class_of b ≡ Semicolon → b ≡ 59
semicolon b h = grind (arith, nat_tests)

feed : (b : ℕ) → class_of b ≡ Feed → b ≡ 10
feed b h = grind (arith, nat_tests)

-- Comments. One that opened before place p is still open there.
abbrev Under : List ℕ → ℕ → Type 0
Under t p = (j : ℕ) × (j < p) × (get_or t j 0 ≡ 59) × ((k : ℕ) → j ≤ k → k < p → get_or t k 0 ≡ 10 → ⊥)

under_commented : (t : List ℕ) (p : ℕ) → Under t p → Commented t p
under_commented t p u = (u.0, omega (arith, u.1), u.2, u.3)

not_commented : (t : List ℕ) (p : ℕ) (c : Class) → class_of (get_or t p 0) ≡ c → Differ c Semicolon → (Under t p → ⊥) → Commented t p → ⊥
not_commented t p c e n o (j, h, f, g) =
    ⊎_elim
    (λ same. apart e (ap (λ i. class_of (get_or t i 0)) (sym same) ∙ ap class_of f) n)
    (⊎_elim (λ lt. o (j, lt, f, g)) (λ gt. omega arith))
    (cases_order j p)

not_under_more : (t : List ℕ) (p : ℕ) → (Commented t p → ⊥) → Under t (p + 1) → ⊥
not_under_more t p n (j, h, f, g) = n (j, omega arith, f, λ k a b. g k a (omega arith))

not_under_feed : (t : List ℕ) (p : ℕ) → class_of (get_or t p 0) ≡ Feed → Under t (p + 1) → ⊥
not_under_feed t p e (j, h, f, g) = g p (omega arith) (omega arith) (feed (get_or t p 0) e)

under_more : (t : List ℕ) (p : ℕ) (c : Class) → class_of (get_or t p 0) ≡ c → Differ c Feed → Commented t p → Under t (p + 1)
under_more t p c e n (j, h, f, g) =
    (j, omega arith, f, λ k a b z. ⊎_elim (λ lt. g k a lt z) (λ ge. let same : k ≡ p = omega arith in apart e (ap (λ i. class_of (get_or t i 0)) (sym same) ∙ ap class_of z) n) (cases_lt k p))

opens : (t : List ℕ) (p : ℕ) → class_of (get_or t p 0) ≡ Semicolon → Commented t p
opens t p e = (p, omega arith, semicolon (get_or t p 0) e, λ k a b. absurd (omega arith))

-- Words that begin at a place, by its byte.
word_byte : (t : List ℕ) (p : ℕ) (k : Kind) → WordAt t p k → (Is t p Mark ⊎ Is t p Strange) ⊎ Is t p Plain
word_byte t p k (n, inl a) = inl a.0
word_byte t p k (n, inr r) = inr (r.2 p (omega arith) (omega (arith, r.1)))

-- no word begins at a blank, a line feed or a `;`, and none past the end
no_word :
    (t : List ℕ) (p : ℕ) (c : Class) → class_of (get_or t p 0) ≡ c → Differ c Mark → Differ c Strange → Differ c Plain
    → (k : Kind) → WordAt t p k → ⊥
no_word t p c e m s l k w = ⊎_elim (⊎_elim (λ i. apart e i.1 m) (λ i. apart e i.1 s)) (λ i. apart e i.1 l) (word_byte t p k w)

inside : (t : List ℕ) (p : ℕ) (k : Kind) → WordAt t p k → p < length t
inside t p k w = ⊎_elim (⊎_elim (λ i. i.0) (λ i. i.0)) (λ i. i.0) (word_byte t p k w)

-- a mark or a strange byte is one word
alone : (t : List ℕ) (p : ℕ) → (Commented t p → ⊥) → Is t p Mark ⊎ Is t p Strange → WordAt t p (mark_kind (get_or t p 0))
alone t p n i = (n, inl (i, refl))

not_plain : (t : List ℕ) (p : ℕ) → Is t p Mark ⊎ Is t p Strange → Is t p Plain → ⊥
not_plain t p i l = ⊎_elim (λ m. apart m.1 l.1 tt) (λ s. apart s.1 l.1 tt) i

alone_only : (t : List ℕ) (p : ℕ) → Is t p Mark ⊎ Is t p Strange → (k : Kind) → WordAt t p k → mark_kind (get_or t p 0) ≡ k
alone_only t p i k (n, inl a) = sym a.1
alone_only t p i k (n, inr r) = absurd (not_plain t p i (r.2 p (omega arith) (omega (arith, r.1))))

-- plain bytes from s to before p, the byte before s not plain, and outside a comment
record Begun (t : List ℕ) (s p : ℕ) : Type 0 where
  clear : Under t p → ⊥
  some : s < p
  plains : (i : ℕ) → s ≤ i → i < p → Is t i Plain
  before : (i : ℕ) → i + 1 ≡ s → Is t i Plain → ⊥

-- with a byte that is not plain, or the end, they are one word
outside : (t : List ℕ) (s p : ℕ) → Begun t s p → Commented t s → ⊥
outside t s p b (j, h, f, g) =
    b.clear (j, omega (arith, b.some), f, λ k a l z. ⊎_elim (λ lt. g k a lt z) (λ ge. apart (b.plains k ge l).1 (ap class_of z) tt) (cases_lt k s))

run : (t : List ℕ) (s p : ℕ) → Begun t s p → (Is t p Plain → ⊥) → WordAt t s (word_kind (take (p - s) (drop s t)))
run t s p b n =
    let e : s + (p - s) ≡ p = omega (arith, b.some) in
    (outside t s p b, inr (p - s, omega (arith, b.some), λ i g h. b.plains i g (omega arith), b.before, subst (λ q. Is t q Plain → ⊥) (sym e) n, refl))

run_only : (t : List ℕ) (s p : ℕ) → Begun t s p → (Is t p Plain → ⊥) → (k : Kind) → WordAt t s k → word_kind (take (p - s) (drop s t)) ≡ k
run_only t s p b n k (o, inl a) = absurd (not_plain t s a.0 (b.plains s (omega arith) b.some))
run_only t s p b n k (o, inr (m, pos, all, bef, aft, is)) =
    ⊎_elim
    (λ e. let f : p - s ≡ m = omega arith in ap (λ q. word_kind (take q (drop s t))) f ∙ sym is)
    (⊎_elim (λ lt. absurd (aft (b.plains (s + m) (omega arith) lt))) (λ gt. absurd (n (all p (omega (arith, b.some)) gt))))
    (cases_order (s + m) p)

run_none : (t : List ℕ) (s p : ℕ) → Begun t s p → (q : ℕ) (k : Kind) → s < q → q < p → WordAt t q k → ⊥
run_none t s p b q k h g (o, inl a) = not_plain t q a.0 (b.plains q (omega arith) g)
run_none t s p b q k h g (o, inr r) = r.3 (q - 1) (omega arith) (b.plains (q - 1) (omega arith) (omega arith))

-- The list of exactly the words that begin at place a or after it.
record Exact (t : List ℕ) (a : ℕ) (ls : List Lexeme) : Type 0 where
  rising : Rising ls
  low : (p : ℕ) (k : Kind) → Has ls p k → a ≤ p
  sound : (p : ℕ) (k : Kind) → Has ls p k → WordAt t p k
  complete : (p : ℕ) (k : Kind) → a ≤ p → WordAt t p k → Has ls p k

none_past : (t : List ℕ) (a : ℕ) → length t ≤ a → Exact t a []
none_past t a h =
    record {
      rising = tt;
      low = λ p k x. absurd x;
      sound = λ p k x. absurd x;
      complete = λ p k g w. omega (arith, inside t p k w);
    }

-- a place where no word begins
pass : (t : List ℕ) (a : ℕ) (ls : List Lexeme) → ((k : Kind) → WordAt t a k → ⊥) → Exact t (a + 1) ls → Exact t a ls
pass t a ls none e =
    record {
      rising = e.rising;
      low = λ p k x. omega (arith, e.low p k x);
      sound = e.sound;
      complete =
          λ p k g w. ⊎_elim
          (λ lt. let same : p ≡ a = omega arith in absurd (none k (subst (λ q. WordAt t q k) same w)))
          (λ ge. e.complete p k (omega arith) w)
          (cases_lt p (a + 1));
    }

-- a word at a, the only one there, and none up to b
add :
    (t : List ℕ) (a b : ℕ) (k : Kind) (ls : List Lexeme) → a < b → WordAt t a k → ((j : Kind) → WordAt t a j → k ≡ j)
    → ((q : ℕ) (j : Kind) → a < q → q < b → WordAt t q j → ⊥) → Exact t b ls
    → Exact t a (record { place = a; kind = k } ∷ ls)
add t a b k ls h w only none e =
    record {
      rising = (λ p j x. omega (arith, e.low p j x), e.rising);
      low = λ p j x. ⊎_elim (λ y. omega (arith, y.0)) (λ y. omega (arith, e.low p j y)) x;
      sound = λ p j x. ⊎_elim (λ y. subst (λ q. WordAt t q j) y.0 (subst (λ i. WordAt t a i) y.1 w)) (λ y. e.sound p j y) x;
      complete =
          λ p j g v. ⊎_elim
          (λ lt. ⊎_elim
          (λ same. inl (same, only j (subst (λ q. WordAt t q j) (sym same) v)))
          (⊎_elim (λ more. absurd (none p j more lt v)) (λ less. absurd (omega arith)))
          (cases_order a p))
          (λ ge. inr (e.complete p j ge v))
          (cases_lt p b);
    }

-- What the scan's mode says of the text before a place.
abbrev Holds : List ℕ → Mode → ℕ → Type 0
Holds t between p = (Under t p → ⊥) × (Is t p Plain → (i : ℕ) → i + 1 ≡ p → Is t i Plain → ⊥)
Holds t (within s w) p = Begun t s p × (w ≡ take (p - s) (drop s t))
Holds t comment p = Under t p

-- where the words begin that the scan has still to give
abbrev start : Mode → ℕ → ℕ
start between p = p
start (within s w) p = s
start comment p = p

-- in every mode that fits the text, the scan of the bytes bs from p on gives exactly those words
abbrev Exactly : List ℕ → List ℕ → ℕ → Type 0
Exactly t bs p = (m : Mode) → Holds t m p → Exact t (start m p) (scan m p bs)

-- the mode after the byte at p: between words, in a plain word that begins there, or that goes on
after : (t : List ℕ) (p : ℕ) (c : Class) → class_of (get_or t p 0) ≡ c → Differ c Plain → (Under t (p + 1) → ⊥) → Holds t between (p + 1)
after t p c e n o = (o, λ _ i same l. let f : i ≡ p = omega arith in apart e (ap (λ j. class_of (get_or t j 0)) (sym f) ∙ l.1) n)

-- a plain word ends at p
ended :
    (t : List ℕ) (s p : ℕ) (w : List ℕ) (ls : List Lexeme) → Holds t (within s w) p → (Is t p Plain → ⊥) → Exact t p ls
    → Exact t s (plain s w ∷ ls)
ended t s p w ls (b, is) n e =
    subst (λ v. Exact t s (plain s v ∷ ls)) (sym is) (add t s p (word_kind (take (p - s) (drop s t))) ls b.some (run t s p b n) (run_only t s p b n) (run_none t s p b) e)

begins :
    (t : List ℕ) (p : ℕ) → p < length t → class_of (get_or t p 0) ≡ Plain → Holds t between p
    → Holds t (within p (get_or t p 0 ∷ [])) (p + 1)
begins t p h e (o, before) = (
  record {
    clear = not_under_more t p (not_commented t p Plain e tt o);
    some = omega arith;
    plains = λ i a b. let same : p ≡ i = omega arith in subst (λ j. Is t j Plain) same (h, e);
    before = before (h, e);
  },
  sym (one_byte t p h),
)

goes_on :
    (t : List ℕ) (s p : ℕ) (w : List ℕ) → p < length t → class_of (get_or t p 0) ≡ Plain → Holds t (within s w) p
    → Holds t (within s (w ++ get_or t p 0 ∷ [])) (p + 1)
goes_on t s p w h e (b, is) = (
  record {
    clear = not_under_more t p (not_commented t p Plain e tt b.clear);
    some = omega (arith, b.some);
    plains = λ i a l. ⊎_elim (λ lt. b.plains i a lt) (λ ge. let same : p ≡ i = omega arith in subst (λ j. Is t j Plain) same (h, e)) (cases_lt i p);
    before = b.before;
  },
  ap (λ v. v ++ get_or t p 0 ∷ []) is ∙ sym (one_more t s p (omega (arith, b.some)) h),
)

-- One byte, by the mode and the byte's class.
at-single :
    (t bs : List ℕ) (p : ℕ) (c : Class) → class_of (get_or t p 0) ≡ c → Differ c Semicolon → Differ c Plain
    → Is t p Mark ⊎ Is t p Strange → Exactly t bs (p + 1) → Holds t between p
    → Exact t p (single p (get_or t p 0) ∷ scan between (p + 1) bs)
at-single t bs p c e n l i more (o, before) =
    let out = not_commented t p c e n o in
    add t p (p + 1) _ _ (omega arith) (alone t p out i) (alone_only t p i) (λ q j a b. absurd (omega arith)) (more between (after t p c e l (not_under_more t p out)))

at_gap :
    (t bs : List ℕ) (p : ℕ) (c : Class) → class_of (get_or t p 0) ≡ c → Differ c Mark → Differ c Strange → Differ c Plain
    → Differ c Semicolon → Exactly t bs (p + 1) → Holds t between p → Exact t p (scan between (p + 1) bs)
at_gap t bs p c e m s l n more (o, before) =
    pass t p _ (no_word t p c e m s l) (more between (after t p c e l (not_under_more t p (not_commented t p c e n o))))

from-between :
    (t bs : List ℕ) (p : ℕ) (c : Class) → p < length t → class_of (get_or t p 0) ≡ c → Exactly t bs (p + 1)
    → Holds t between p → Exact t p (ends between c p (get_or t p 0) ++ scan (goes between c p (get_or t p 0)) (p + 1) bs)
from-between t bs p Blank h e more i = at_gap t bs p Blank e tt tt tt tt more i
from-between t bs p Feed h e more i = at_gap t bs p Feed e tt tt tt tt more i
from-between t bs p Mark h e more i = at-single t bs p Mark e tt tt (inl (h, e)) more i
from-between t bs p Semicolon h e more i = pass t p _ (no_word t p Semicolon e tt tt tt) (more comment (under_more t p Semicolon e tt (opens t p e)))
from-between t bs p Plain h e more i = more (within p (get_or t p 0 ∷ [])) (begins t p h e i)
from-between t bs p Strange h e more i = at-single t bs p Strange e tt tt (inr (h, e)) more i

-- a plain word that ends at a byte, which is then looked at between words
closes :
    (t bs : List ℕ) (s p : ℕ) (w : List ℕ) (c : Class) → p < length t → class_of (get_or t p 0) ≡ c → Differ c Plain
    → Exactly t bs (p + 1) → Holds t (within s w) p
    → Exact t s (plain s w ∷ (ends between c p (get_or t p 0) ++ scan (goes between c p (get_or t p 0)) (p + 1) bs))
closes t bs s p w c h e n more i =
    let not : Is t p Plain → ⊥ = λ l. apart e l.1 n in
    ended t s p w _ i not (from-between t bs p c h e more (i.0.clear, λ l. absurd (not l)))

from-within :
    (t bs : List ℕ) (s p : ℕ) (w : List ℕ) (c : Class) → p < length t → class_of (get_or t p 0) ≡ c → Exactly t bs (p + 1)
    → Holds t (within s w) p
    → Exact t s (ends (within s w) c p (get_or t p 0) ++ scan (goes (within s w) c p (get_or t p 0)) (p + 1) bs)
from-within t bs s p w Blank h e more i = closes t bs s p w Blank h e tt more i
from-within t bs s p w Feed h e more i = closes t bs s p w Feed h e tt more i
from-within t bs s p w Mark h e more i = closes t bs s p w Mark h e tt more i
from-within t bs s p w Semicolon h e more i = closes t bs s p w Semicolon h e tt more i
from-within t bs s p w Plain h e more i = more (within s (w ++ get_or t p 0 ∷ [])) (goes_on t s p w h e i)
from-within t bs s p w Strange h e more i = closes t bs s p w Strange h e tt more i

in-comment :
    (t bs : List ℕ) (p : ℕ) (c : Class) → class_of (get_or t p 0) ≡ c → Differ c Feed → Exactly t bs (p + 1) → Under t p
    → Exact t p (scan comment (p + 1) bs)
in-comment t bs p c e n more u =
    let inner = under_commented t p u in
    pass t p _ (λ k w. w.0 inner) (more comment (under_more t p c e n inner))

from-comment :
    (t bs : List ℕ) (p : ℕ) (c : Class) → class_of (get_or t p 0) ≡ c → Exactly t bs (p + 1) → Under t p
    → Exact t p (scan (goes comment c p (get_or t p 0)) (p + 1) bs)
from-comment t bs p Blank e more u = in-comment t bs p Blank e tt more u
from-comment t bs p Feed e more u = pass t p _ (no_word t p Feed e tt tt tt) (more between (after t p Feed e tt (not_under_feed t p e)))
from-comment t bs p Mark e more u = in-comment t bs p Mark e tt more u
from-comment t bs p Semicolon e more u = in-comment t bs p Semicolon e tt more u
from-comment t bs p Plain e more u = in-comment t bs p Plain e tt more u
from-comment t bs p Strange e more u = in-comment t bs p Strange e tt more u

-- The whole text.
head_of : (t : List ℕ) (p b : ℕ) (bs : List ℕ) → drop p t ≡ b ∷ bs → (p < length t) × (get_or t p 0 ≡ b) × (drop (p + 1) t ≡ bs)
head_of t p b bs e =
    let h : p < length t = omega (arith, simp length-drop at (ap length e)) in
    let f = drop_more t p 0 h in
    (h, (cc), (cc))

at-end : (t : List ℕ) (p : ℕ) → length t ≤ p → Exactly t [] p
at-end t p h between i = none_past t p h
at-end t p h (within s w) i = ended t s p w [] i (λ l. omega (arith, l.0)) (none_past t p h)
at-end t p h comment i = none_past t p h

scans_byte : (t bs : List ℕ) (p : ℕ) → p < length t → Exactly t bs (p + 1) → Exactly t (get_or t p 0 ∷ bs) p
scans_byte t bs p h more between i = from-between t bs p (class_of (get_or t p 0)) h refl more i
scans_byte t bs p h more (within s w) i = from-within t bs s p w (class_of (get_or t p 0)) h refl more i
scans_byte t bs p h more comment i = from-comment t bs p (class_of (get_or t p 0)) refl more i

scans : (t bs : List ℕ) (p : ℕ) → drop p t ≡ bs → Exactly t bs p
scans t [] p e = at-end t p (omega (arith, simp length-drop at (ap length e)))
scans t (b ∷ bs) p e =
    let (h, is, rest) = head_of t p b bs e in
    subst (λ x. Exactly t (x ∷ bs) p) is (scans_byte t bs p h (scans t bs (p + 1) rest))

pub are_words : (t : List ℕ) → AreWords t (words_of t)
are_words t =
    let all = scans t t 0 refl between (λ u. omega (arith, u.1), λ l i e. absurd (omega arith)) in
    record { rising = all.rising; sound = all.sound; complete = λ p k w. all.complete p k (omega arith) w }
