-- The attributes of a declaration by their words and by their numbers. Assumes nothing.
use Rattle.std.proofs.Common.{◌≡◌, ℕ, suc, ◌+◌, Bool, true, false, cond, not, ◌||◌, eqb, leb, List, [], ◌∷◌, ◌++◌, length, is_some, Some, None, Option, unwrap_or, sym, refl, ap, ◌∙◌, eq-eqb, eqb-true}
use Rattle.std.proofs.lemmas.Slice.Eq.{bytes_eq-Decides}
use Rattle.std.specs.Str.{bytes_eq}
use Rattle.values.specs.Firsts.{first_from}
use Rattle.values.specs.Naming.{number_of, answer_intern, after_intern}
use Rattle.values.proofs.Numbering.{kept_number, own_number, answer_named, one_word}
use Rattle.rules.specs.Attributes.{Declared}
use Rattle.languages.specs.Refusals.{wrong_name, over_limit}
use Rattle.languages.specs.Naming.{numbered, unnameable, field_at}
use Rattle.reader.specs.Forms.{among, attribute_fault}
use Rattle.reader.specs.Machine.{attribute_fault_by_number}

-- each word has the number beside it
abbrev pub Matched : List (List ℕ) → List (List ℕ) → List ℕ → Type 0
Matched ns [] [] = Unit {0}
Matched ns [] (i ∷ is) = ⊥
Matched ns (w ∷ ws) [] = ⊥
Matched ns (w ∷ ws) (i ∷ is) = (number_of ns w ≡ Some i) × Matched ns ws is

matched_length : (ns ws : List (List ℕ)) (is : List ℕ) → Matched ns ws is → length ws ≡ length is
matched_length ns [] [] m = refl
matched_length ns [] (i ∷ is) m = absurd m
matched_length ns (w ∷ ws) [] m = absurd m
matched_length ns (w ∷ ws) (i ∷ is) m = ap suc (matched_length ns ws is m.1)

-- one more name leaves the numbers as they are
pub matched_kept : (ns : List (List ℕ)) (x : List ℕ) (ws : List (List ℕ)) (is : List ℕ) → Matched ns ws is → Matched (after_intern ns x) ws is
matched_kept ns x [] [] m = tt
matched_kept ns x [] (i ∷ is) m = absurd m
matched_kept ns x (w ∷ ws) [] m = absurd m
matched_kept ns x (w ∷ ws) (i ∷ is) m = (kept_number ns x w i m.0, matched_kept ns x ws is m.1)

pub matched_push : (ns ws : List (List ℕ)) (is : List ℕ) (w : List ℕ) (i : ℕ) → Matched ns ws is → number_of ns w ≡ Some i → Matched ns (ws ++ w ∷ []) (is ++ i ∷ [])
matched_push ns [] [] w i m e = (e, tt)
matched_push ns [] (j ∷ is) w i m e = absurd m
matched_push ns (v ∷ ws) [] w i m e = absurd m
matched_push ns (v ∷ ws) (j ∷ is) w i m e = (m.0, matched_push ns ws is w i m.1 e)

-- words are equal where their numbers are
same_number : (ns : List (List ℕ)) (v w : List ℕ) (j i : ℕ) → number_of ns v ≡ Some j → number_of ns w ≡ Some i → bytes_eq v w ≡ eqb j i
same_number ns v w j i e g = go (bytes_eq v w) (eqb j i) refl refl
  where
    go : (b d : Bool) → bytes_eq v w ≡ b → eqb j i ≡ d → b ≡ d
    go true true s t = refl
    go false false s t = refl
    go true false s t =
        let is : v ≡ w = (bytes_eq-Decides v w).0 s in
        let both : Some j ≡ Some i = sym e ∙ ap (number_of ns) is ∙ g in
        let one : j ≡ i = cc in
        sym (eq-eqb j i one) ∙ t
    go false true s t =
        let one : j ≡ i = eqb-true j i t in
        sym s ∙ (bytes_eq-Decides v w).1 (one_word ns v w i (e ∙ ap Some one) g)

same_among : (ns ws : List (List ℕ)) (is : List ℕ) (w : List ℕ) (i n : ℕ) → Matched ns ws is → number_of ns w ≡ Some i → among w ws ≡ is_some (first_from (λ x. eqb x i) n is)
same_among ns [] [] w i n m e = refl
same_among ns [] (j ∷ is) w i n m e = absurd m
same_among ns (v ∷ ws) [] w i n m e = absurd m
same_among ns (v ∷ ws) (j ∷ is) w i n m e =
    ap (λ b. b || among w ws) (same_number ns v w j i m.0 e) ∙ go (eqb j i) (same_among ns ws is w i (n + 1) m.1 e)
  where
    go : (b : Bool) → among w ws ≡ is_some (first_from (λ x. eqb x i) (n + 1) is) → (b || among w ws) ≡ is_some (cond b (Some n) (first_from (λ x. eqb x i) (n + 1) is))
    go true f = refl
    go false f = f

-- a word that gets no number is not among those that have one
not_among : (ns ws : List (List ℕ)) (is : List ℕ) (w : List ℕ) → Matched ns ws is → answer_intern ns w ≡ None → among w ws ≡ false
not_among ns [] is w m e = refl
not_among ns (v ∷ ws) [] w m e = absurd m
not_among ns (v ∷ ws) (j ∷ is) w m e = go (bytes_eq v w) refl (not_among ns ws is w m.1 e)
  where
    go : (b : Bool) → bytes_eq v w ≡ b → among w ws ≡ false → (b || among w ws) ≡ false
    go true s f =
        let h : answer_intern ns w ≡ Some j = ap (answer_intern ns) (sym ((bytes_eq-Decides v w).0 s)) ∙ answer_named ns v j m.0 in
        let both : None ≡ Some j = sym e ∙ h in
        absurd cc
    go false s f = f

-- an attribute breaks the same rule by its word and by its number
pub same_fault : (c : Declared) (ns seen : List (List ℕ)) (w : List ℕ) → Matched ns seen c.attributes → attribute_fault_by_number c ns w ≡ attribute_fault ns seen w
same_fault c ns seen w m =
    sym (ap (λ b. cond b (Some wrong_name) (cond (leb 15 (length seen) || unnameable ns w) (Some over_limit) None)) (by (answer_intern ns w) refl)
    ∙ ap (λ n. cond (is_some (field_at c (answer_intern ns w))) (Some wrong_name) (cond (leb 15 n || unnameable ns w) (Some over_limit) None)) (matched_length ns seen c.attributes m))
  where
    by : (o : Option ℕ) → answer_intern ns w ≡ o → among w seen ≡ is_some (field_at c o)
    by None e = not_among ns seen c.attributes w m e
    by (Some i) e = same_among (after_intern ns w) seen c.attributes w i 1 (matched_kept ns w seen c.attributes m) (own_number ns w i e)

-- a word that breaks no rule gets a number
pub has-number : (ns seen : List (List ℕ)) (w : List ℕ) → attribute_fault ns seen w ≡ None → answer_intern ns w ≡ Some (numbered ns w)
has-number ns seen w = go (answer_intern ns w) (among w seen) (leb 15 (length seen))
  where
    go : (o : Option ℕ) (b d : Bool) → cond b (Some wrong_name) (cond (d || not (is_some o)) (Some over_limit) None) ≡ None → o ≡ Some (unwrap_or o 0)
    go (Some i) b d e = refl
    go None true d e = absurd cc
    go None false true e = absurd cc
    go None false false e = absurd cc

pub matched_more : (c : Declared) (ns seen : List (List ℕ)) (w : List ℕ) → Matched ns seen c.attributes → attribute_fault ns seen w ≡ None → Matched (after_intern ns w) (seen ++ w ∷ []) (c.attributes ++ numbered ns w ∷ [])
matched_more c ns seen w m e =
    matched_push (after_intern ns w) seen c.attributes w (numbered ns w) (matched_kept ns w seen c.attributes m) (own_number ns w (numbered ns w) (has-number ns seen w e))
