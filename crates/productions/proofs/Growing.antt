-- Names that are added leave classes and attributes as they were, and a symbol that can get no name never has one. Assumes nothing.
use Rattle.std.proofs.Common.{◌≡◌, ℕ, ◌+◌, ◌<◌, ◌≤◌, Bool, true, false, cond, not, ◌&&◌, eqb, ltb, List, [], ◌∷◌, ◌++◌, length, is_some, Some, None, Option, unwrap_or, sym, refl, ap, ◌∙◌, append_assoc, append-nil, arith, ne_eqb}
use borrow.Author.Tests.{not-false}
use Rattle.std.proofs.lemmas.Slice.Eq.{bytes_eq-Decides}
use Rattle.std.proofs.lemmas.Bool.{cond-false, and_parts, and_from, and_right}
use Rattle.std.specs.Str.{bytes_eq}
use Rattle.values.specs.Firsts.{first_from}
use Rattle.values.specs.Naming.{number_of, admits, or_else, answer_intern, after_intern}
use Rattle.values.specs.Spelling.{nameable}
use Rattle.values.proofs.Finding.{found}
use Rattle.values.proofs.Numbering.{kept_number, own_number}
use Rattle.rules.specs.Attributes.{Declared, new_class}
use Rattle.rules.specs.Declarations.{find_class}
use Rattle.languages.specs.Naming.{Grows, unnameable, class_at, field_at, class_named, Constant, symbolic, numeric, after_value}
use Rattle.productions.specs.Kept.{Every, Numbered, Known}
use Rattle.productions.specs.Said.{grown}

-- ---- finding in a row that grew

first-append : {X : Type 0} (t : X → Bool) (n : ℕ) (xs ys : List X) → first_from t n (xs ++ ys) ≡ or_else (first_from t n xs) (first_from t (n + length xs) ys)
first-append t n [] ys = let e : n ≡ n + 0 = omega arith in ap (λ m. first_from t m ys) e
first-append t n (x ∷ xs) ys = go (t x) (first-append t (n + 1) xs ys)
  where
    go : (b : Bool) → first_from t (n + 1) (xs ++ ys) ≡ or_else (first_from t (n + 1) xs) (first_from t ((n + 1) + length xs) ys) → cond b (Some n) (first_from t (n + 1) (xs ++ ys)) ≡ or_else (cond b (Some n) (first_from t (n + 1) xs)) (first_from t (n + length (x ∷ xs)) ys)
    go true h = refl
    go false h = let e : (n + 1) + length xs ≡ n + length (x ∷ xs) = omega arith in h ∙ ap (λ m. or_else (first_from t (n + 1) xs) (first_from t m ys)) e

-- what says nothing of the new numbers says the same
same_answer : {X : Type 0} (F : Option ℕ → Option X) (ns more : List (List ℕ)) (w : List ℕ) → F None ≡ None → ((j : ℕ) → length ns ≤ j → F (Some j) ≡ None) → F (number_of (ns ++ more) w) ≡ F (number_of ns w)
same_answer F ns more w z late = ap F (first-append (λ n. bytes_eq n w) 0 ns more) ∙ go (number_of ns w) (first_from (λ n. bytes_eq n w) (0 + length ns) more) refl
  where
    go : (o p : Option ℕ) → first_from (λ n. bytes_eq n w) (0 + length ns) more ≡ p → F (or_else o p) ≡ F o
    go (Some i) p e = refl
    go None None e = refl
    go None (Some j) e =
        let f = found (λ n. bytes_eq n w) [] more (0 + length ns) j e in
        late j (omega (arith, f.1)) ∙ sym z

-- ---- classes and attributes

find_late : (cs : List Declared) (n j : ℕ) → Every (Numbered n) cs → n ≤ j → find_class cs j ≡ None
find_late [] n j k h = refl
find_late (c ∷ cs) n j k h =
    let below = k.0.name in
    cond-false (eqb c.name j) _ _ (ne_eqb c.name j (λ e. omega arith)) ∙ find_late cs n j k.1 h

field-late : (as' : List ℕ) (n j m : ℕ) → Every (λ a. a < n) as' → n ≤ j → first_from (λ x. eqb x j) m as' ≡ None
field-late [] n j m k h = refl
field-late (a ∷ as') n j m k h =
    let below = k.0 in
    cond-false (eqb a j) _ _ (ne_eqb a j (λ e. omega arith)) ∙ field-late as' n j (m + 1) k.1 h

-- the attributes of a class that is found have names
found-known : (cs : List Declared) (n i : ℕ) → Every (Numbered n) cs → Every (λ a. a < n) (unwrap_or (find_class cs i) (new_class 0)).attributes
found-known [] n i k = tt
found-known (c ∷ cs) n i k = go (eqb c.name i) (found-known cs n i k.1)
  where
    go : (b : Bool) → Every (λ a. a < n) (unwrap_or (find_class cs i) (new_class 0)).attributes → Every (λ a. a < n) (unwrap_or (cond b (Some c) (find_class cs i)) (new_class 0)).attributes
    go true h = k.0.attributes
    go false h = h

named-known : (cs : List Declared) (n : ℕ) (o : Option ℕ) → Every (Numbered n) cs → Every (λ a. a < n) (unwrap_or (class_at cs o) (new_class 0)).attributes
named-known cs n None k = tt
named-known cs n (Some i) k = found-known cs n i k

-- names that are added stand behind the others
pub behind_none : (ns : List (List ℕ)) → Grows ns ns
behind_none ns = ([], sym (append-nil ns))

pub behind_one : (ns m : List (List ℕ)) (w : List ℕ) → Grows ns m → Grows ns (after_intern m w)
behind_one ns m w (more, e) = go (is_some (number_of m w)) (admits m w)
  where
    go : (b d : Bool) → Grows ns (cond b m (cond d (m ++ w ∷ []) m))
    go true d = (more, e)
    go false true = (more ++ w ∷ [], ap (λ l. l ++ w ∷ []) e ∙ append_assoc ns more (w ∷ []))
    go false false = (more, e)

pub behind_value : (ns m : List (List ℕ)) (c : Constant) → Grows ns m → Grows ns (after_value m c)
behind_value ns m (symbolic w) b = behind_one ns m w b
behind_value ns m (numeric n) b = b

pub same_class : (cs : List Declared) (ns m : List (List ℕ)) (w : List ℕ) → Known cs ns → Grows ns m → class_at cs (number_of m w) ≡ class_at cs (number_of ns w)
same_class cs ns m w k (more, e) = ap (λ l. class_at cs (number_of l w)) e ∙ same_answer (class_at cs) ns more w refl (λ j h. find_late cs (length ns) j k h)

pub same_field : (cs : List Declared) (ns m : List (List ℕ)) (c w : List ℕ) → Known cs ns → Grows ns m → field_at (class_named cs ns c) (number_of m w) ≡ field_at (class_named cs ns c) (number_of ns w)
same_field cs ns m c w k (more, e) =
    ap (λ l. field_at (class_named cs ns c) (number_of l w)) e
    ∙ same_answer (field_at (class_named cs ns c)) ns more w refl (λ j h. field-late (class_named cs ns c).attributes (length ns) j 1 (named-known cs (length ns) (number_of ns c) k) h)

-- ---- symbols

-- each symbol of a row can get a name when its turn comes
abbrev pub Nameables : List (List ℕ) → List (List ℕ) → Type 0
Nameables ns [] = Unit {0}
Nameables ns (w ∷ ws) = (unnameable ns w ≡ false) × Nameables (after_intern ns w) ws

-- one symbol more
pub grown-more : (xs ns : List (List ℕ)) (x : List ℕ) → grown ns (xs ++ x ∷ []) ≡ after_intern (grown ns xs) x
grown-more [] ns x = refl
grown-more (y ∷ xs) ns x = grown-more xs (after_intern ns y) x

kept-all : (ws ns : List (List ℕ)) (w : List ℕ) (i : ℕ) → number_of ns w ≡ Some i → number_of (grown ns ws) w ≡ Some i
kept-all [] ns w i e = e
kept-all (x ∷ ws) ns w i e = kept-all ws (after_intern ns x) w i (kept_number ns x w i e)

pub named-all : (ws ns : List (List ℕ)) → Nameables ns ws → Every (λ w. is_some (number_of (grown ns ws) w) ≡ true) ws
named-all [] ns h = tt
named-all (w ∷ ws) ns h = (go (answer_intern ns w) refl (not-false _ h.0), named-all ws (after_intern ns w) h.1)
  where
    go : (o : Option ℕ) → answer_intern ns w ≡ o → is_some o ≡ true → is_some (number_of (grown (after_intern ns w) ws) w) ≡ true
    go None e s = let z : ◌≡◌ {A = ℕ} 0 1 = cc in absurd (omega arith)
    go (Some i) e s = ap is_some (kept-all ws (after_intern ns w) w i (own_number ns w i e))

-- a symbol that can get no name
record Unnamed (ns : List (List ℕ)) (w : List ℕ) : Type 0 where
  absent : number_of ns w ≡ None
  refused : admits ns w ≡ false

never_one : (ns : List (List ℕ)) (x w : List ℕ) → Unnamed ns w → Unnamed (after_intern ns x) w
never_one ns x w u = go (is_some (number_of ns x)) (admits ns x) refl
  where
    other : admits ns x ≡ true → bytes_eq x w ≡ false
    other a = at (bytes_eq x w) refl
      where
        at : (b : Bool) → bytes_eq x w ≡ b → b ≡ false
        at true e =
            let q : x ≡ w = (bytes_eq-Decides x w).0 e in
            let r : admits ns x ≡ false = ap (admits ns) q ∙ u.refused in
            sym a ∙ r
        at false e = refl

    still : admits ns x ≡ true → admits (ns ++ x ∷ []) w ≡ false
    still a = at (nameable w) refl
      where
        at : (b : Bool) → nameable w ≡ b → (ltb (length (ns ++ x ∷ [])) 256 && b) ≡ false
        at true e =
            let room = (and_parts (ltb (length ns) 256) (nameable x) a).0 in
            let no : (ltb (length ns) 256 && nameable w) ≡ false = u.refused in
            let yes : (ltb (length ns) 256 && nameable w) ≡ true = and_from _ _ room e in
            let z : ◌≡◌ {A = Bool} true false = cc in
            let y : ◌≡◌ {A = ℕ} 0 1 = cc in
            absurd (omega arith)
        at false e = and_right _ false refl

    go : (b d : Bool) → admits ns x ≡ d → Unnamed (cond b ns (cond d (ns ++ x ∷ []) ns)) w
    go true d e = u
    go false false e = u
    go false true e = record {
      absent =
          first-append (λ n. bytes_eq n w) 0 ns (x ∷ [])
          ∙ ap (λ o. or_else o (first_from (λ n. bytes_eq n w) (0 + length ns) (x ∷ []))) u.absent
          ∙ cond-false (bytes_eq x w) _ _ (other e);
      refused = still e;
    }

never_all : (ws ns : List (List ℕ)) (w : List ℕ) → Unnamed ns w → Unnamed (grown ns ws) w
never_all [] ns w u = u
never_all (x ∷ ws) ns w u = never_all ws (after_intern ns x) w (never_one ns x w u)

pub all_nameable : (ws ns : List (List ℕ)) → Every (λ w. is_some (number_of (grown ns ws) w) ≡ true) ws → Nameables ns ws
all_nameable [] ns h = tt
all_nameable (w ∷ ws) ns h = (go (number_of ns w) (admits ns w) refl refl, all_nameable ws (after_intern ns w) h.1)
  where
    go : (o : Option ℕ) (b : Bool) → number_of ns w ≡ o → admits ns w ≡ b → not (is_some (or_else o (cond b (Some (length ns)) None))) ≡ false
    go (Some i) b e d = refl
    go None true e d = refl
    go None false e d =
        let u : Unnamed (grown ns (w ∷ ws)) w = never_all (w ∷ ws) ns w (record { absent = e; refused = d }) in
        sym h.0 ∙ ap is_some u.absent
