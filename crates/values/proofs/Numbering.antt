-- The numbers that words have while names are added. Assumes nothing.
use Rattle.std.proofs.Common.{◌≡◌, ℕ, Bool, true, false, cond, List, [], ◌∷◌, ◌++◌, length, get_or, is_some, Some, None, Option, sym, refl, ap, ◌∙◌, zero-add, arith}
use Rattle.std.proofs.lemmas.Slice.Eq.{bytes_eq-Decides}
use Rattle.std.specs.Str.{bytes_eq}
use Rattle.values.specs.Naming.{number_of, admits, or_else, answer_intern, after_intern}
use Rattle.values.proofs.Finding.{found, found_before, found-last}

-- what is named keeps its number
pub kept_number : (ns : List (List ℕ)) (x w : List ℕ) (i : ℕ) → number_of ns w ≡ Some i → number_of (after_intern ns x) w ≡ Some i
kept_number ns x w i e = go (is_some (number_of ns x)) (admits ns x)
  where
    go : (b d : Bool) → number_of (cond b ns (cond d (ns ++ x ∷ []) ns)) w ≡ Some i
    go true d = e
    go false true = found_before (λ n. bytes_eq n w) [] ns (x ∷ []) 0 i e
    go false false = e

-- a word that was interned has the number that was answered
pub own_number : (ns : List (List ℕ)) (w : List ℕ) (i : ℕ) → answer_intern ns w ≡ Some i → number_of (after_intern ns w) w ≡ Some i
own_number ns w i = go (number_of ns w) refl (admits ns w)
  where
    go : (o : Option ℕ) → number_of ns w ≡ o → (d : Bool) → or_else o (cond d (Some (length ns)) None) ≡ Some i → number_of (cond (is_some o) ns (cond d (ns ++ w ∷ []) ns)) w ≡ Some i
    go None e true h = found-last (λ n. bytes_eq n w) [] ns w 0 e ((bytes_eq-Decides w w).1 refl) ∙ ap Some (zero-add (length ns)) ∙ h
    go None e false h = let z : ◌≡◌ {A = ℕ} 0 1 = cc in absurd (omega arith)
    go (Some j) e d h = e ∙ h

-- what is named has the number that interning answers
pub answer_named : (ns : List (List ℕ)) (w : List ℕ) (i : ℕ) → number_of ns w ≡ Some i → answer_intern ns w ≡ Some i
answer_named ns w i e = ap (λ o. or_else o (cond (admits ns w) (Some (length ns)) None)) e

-- words with one number are one word
pub one_word : (ns : List (List ℕ)) (v w : List ℕ) (i : ℕ) → number_of ns v ≡ Some i → number_of ns w ≡ Some i → v ≡ w
one_word ns v w i e g = sym (at v e) ∙ at w g
  where
    at : (u : List ℕ) → number_of ns u ≡ Some i → get_or ns i [] ≡ u
    at u h =
        let f = found (λ n. bytes_eq n u) [] ns 0 i h in
        let k : i ≡ f.0 = omega (arith, f.1) in
        ap (λ j. get_or ns j []) k ∙ (bytes_eq-Decides (get_or ns f.0 []) u).0 f.3
