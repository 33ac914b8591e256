-- Looking a word up among the names, and one name more. Assumes nothing.
use Rattle.std.proofs.Common.{◌≡◌, ℕ, ◌+◌, ◌<◌, ◌≤◌, max, List, [], ◌∷◌, ◌++◌, length, get_or, take, Some, None, codes, Option, sym, refl, ap, ◌∙◌, ⊎_elim, arith, length-append, MatchOption}
use Rattle.std.specs.Str.{bytes_eq}
use Rattle.std.proofs.lemmas.List.{get_or-take, length-take, get_or_append_left}
use Rattle.std.proofs.lemmas.Slice.Eq.{bytes_eq-Decides}
use Rattle.std.proofs.lemmas.Bool.{cases_lt, true≢false}
use Rattle.values.proofs.Finding.{found, nowhere}
use Rattle.values.specs.Spelling.{Distinct}
use Rattle.values.specs.declared.names.Names.{Names}
use Rattle.values.specs.Naming.{held, number_of, Named, Nameless}

-- two places with one name are one place
one_place : (ns : List (List ℕ)) → Distinct ns → (i j : ℕ) → i < length ns → j < length ns → get_or ns i [] ≡ get_or ns j [] → j ≡ i
one_place ns d i j hi hj e =
    ⊎_elim (λ lt. absurd (d i j lt hj e))
    (λ le. ⊎_elim (λ lt. absurd (d j i lt hi (sym e))) (λ le'. omega arith) (cases_lt j i))
    (cases_lt i j)

-- what a look-up says
pub by_law : (ns : List (List ℕ)) (w : List ℕ) (r : Option ℕ) → Distinct ns → r ≡ number_of ns w → MatchOption r (Nameless ns w) (λ i. Named ns w i)
by_law ns w None d e =
    λ i h g. true≢false (sym ((bytes_eq-Decides (get_or ns i []) w).1 g) ∙ nowhere (λ n. bytes_eq n w) [] ns 0 (sym e) i h)
by_law ns w (Some i) d e =
    let f = found (λ n. bytes_eq n w) [] ns 0 i (sym e) in
    let at : f.0 ≡ i = omega arith in
    let is : get_or ns i [] ≡ w = ap (λ k. get_or ns k []) (sym at) ∙ (bytes_eq-Decides (get_or ns f.0 []) w).0 f.3 in
    record { inside = omega arith; is = is; only = λ j h g. one_place ns d i j (omega arith) h (is ∙ sym g) }

-- one name more, and the first names
pub pushed_distinct : (ns : List (List ℕ)) (w : List ℕ) → Distinct ns → Nameless ns w → Distinct (ns ++ w ∷ [])
pushed_distinct ns w d f i j lt h e =
    let long : length (ns ++ w ∷ []) ≡ length ns + 1 = length-append ns (w ∷ []) in
    let left : get_or (ns ++ w ∷ []) i [] ≡ get_or ns i [] = get_or_append_left ns (w ∷ []) [] i (omega arith) in
    ⊎_elim
    (λ in'. d i j lt in' (sym left ∙ e ∙ get_or_append_left ns (w ∷ []) [] j in'))
    (λ out.
    let at : j ≡ length ns = omega arith in
    f i (omega arith) (sym left ∙ e ∙ ap (λ k. get_or (ns ++ w ∷ []) k []) at ∙ last ns))
    (cases_lt j (length ns))
  where
    last : (ms : List (List ℕ)) → get_or (ms ++ w ∷ []) (length ms) [] ≡ w
    last [] = refl
    last (m ∷ ms) = last ms

pub taken-distinct : (ns : List (List ℕ)) (n : ℕ) → Distinct ns → Distinct (take n ns)
taken-distinct ns n d i j lt h e =
    let k = length-take n ns in
    d i j lt (omega arith) (sym (get_or-take n ns i [] (omega arith)) ∙ e ∙ get_or-take n ns j [] (omega arith))

-- the first name stays the first
pub pushed_first : (ns ms : List (List ℕ)) → get_or ns 0 [] ≡ codes "nil" → get_or (ns ++ ms) 0 [] ≡ codes "nil"
pushed_first [] ms e = let z : ◌≡◌ {A = ℕ} 0 1 = cc in absurd (omega arith)
pushed_first (n ∷ ns) ms e = e

pub taken-first : (ns : List (List ℕ)) (n : ℕ) → get_or ns 0 [] ≡ codes "nil" → get_or (take (max n 1) ns) 0 [] ≡ codes "nil"
taken-first ns n e = get_or-take (max n 1) ns 0 [] (omega arith) ∙ e

-- there is one name at least
pub some_name : (n : Names) → 1 ≤ length (held n)
some_name n = some (held n) n.nil
  where
    some : (ns : List (List ℕ)) → get_or ns 0 [] ≡ codes "nil" → 1 ≤ length ns
    some [] e = let z : ◌≡◌ {A = ℕ} 0 1 = cc in absurd (omega arith)
    some (n ∷ ns) e = omega arith
