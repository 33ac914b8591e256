-- Looking for the first of a row that passes a test. Assumes nothing.
use Rattle.std.proofs.Common.{◌≡◌, ℕ, map, refl, zero, suc, ◌+◌, ◌<◌, ◌≤◌, Bool, true, false, cond, List, [], ◌∷◌, ◌++◌, length, get_or, drop, Some, None, sym, ap, ◌∙◌, add-zero, arith}
use Rattle.std.proofs.lemmas.List.{at_drop_more, at_drop_all}
use Rattle.std.proofs.lemmas.Bool.{cond-true, cond-false, cond_both}
use Rattle.std.specs.Option.{option_map}
use Rattle.values.specs.Firsts.{first_from}

module _ {X : Type 0} (test : X → Bool) (d : X) where
  -- one at the place i passes
  pub hit : (xs : List X) (n i : ℕ) → i < length xs → test (get_or xs i d) ≡ true → first_from test n (drop i xs) ≡ Some n
  hit xs n i h e =
      at_drop_more (first_from test n) xs i d h ∙ cond-true (test (get_or xs i d)) _ _ e

  -- the one at the place i does not
  pub miss : (xs : List X) (n i : ℕ) → i < length xs → test (get_or xs i d) ≡ false → first_from test n (drop i xs) ≡ first_from test (n + 1) (drop (i + 1) xs)
  miss xs n i h e =
      at_drop_more (first_from test n) xs i d h ∙ cond-false (test (get_or xs i d)) _ _ e

  -- none is left
  pub none : (xs : List X) (n i : ℕ) → length xs ≤ i → first_from test n (drop i xs) ≡ None
  none xs n i h = at_drop_all (first_from test n) xs i h

  -- what a place that was found says
  pub found : (xs : List X) (n i : ℕ) → first_from test n xs ≡ Some i → (k : ℕ) × (i ≡ n + k) × (k < length xs) × (test (get_or xs k d) ≡ true)
  found [] n i = λ e. let z : ◌≡◌ {A = ℕ} 0 1 = cc in absurd (omega arith)
  found (x ∷ xs) n i =
      cond_both (test x) (Some n) (first_from test (n + 1) xs) (λ o. o ≡ Some i → (k : ℕ) × (i ≡ n + k) × (k < suc (length xs)) × (test (get_or (x ∷ xs) k d) ≡ true))
      (λ t e. let q : n ≡ i = cc in (0, omega arith, omega arith, t))
      (λ _ e. let f = found xs (n + 1) i e in (suc f.0, omega arith, omega arith, f.3))

  -- what it says that none was found
  pub nowhere : (xs : List X) (n : ℕ) → first_from test n xs ≡ None → (k : ℕ) → k < length xs → test (get_or xs k d) ≡ false
  nowhere [] n = λ e k h. absurd (omega arith)
  nowhere (x ∷ xs) n =
      cond_both (test x) (Some n) (first_from test (n + 1) xs) (λ o. o ≡ None → (k : ℕ) → k < suc (length xs) → test (get_or (x ∷ xs) k d) ≡ false)
      (λ _ e. let z : ◌≡◌ {A = ℕ} 0 1 = cc in absurd (omega arith))
      (λ t e. elsewhere t (nowhere xs (n + 1) e))
    where
      elsewhere : test x ≡ false → ((k : ℕ) → k < length xs → test (get_or xs k d) ≡ false) → (k : ℕ) → k < suc (length xs) → test (get_or (x ∷ xs) k d) ≡ false
      elsewhere t f zero h = t
      elsewhere t f (suc k) h = f k (omega arith)

  -- one that was found stays found where others come behind
  pub found_before : (xs ys : List X) (n i : ℕ) → first_from test n xs ≡ Some i → first_from test n (xs ++ ys) ≡ Some i
  found_before [] ys n i = λ e. let z : ◌≡◌ {A = ℕ} 0 1 = cc in absurd (omega arith)
  found_before (x ∷ xs) ys n i = go (test x) (found_before xs ys (n + 1) i)
    where
      go : (b : Bool) → (first_from test (n + 1) xs ≡ Some i → first_from test (n + 1) (xs ++ ys) ≡ Some i) → cond b (Some n) (first_from test (n + 1) xs) ≡ Some i → cond b (Some n) (first_from test (n + 1) (xs ++ ys)) ≡ Some i
      go true f e = e
      go false f e = f e

  -- the last is found where no other is
  pub found-last : (xs : List X) (y : X) (n : ℕ) → first_from test n xs ≡ None → test y ≡ true → first_from test n (xs ++ y ∷ []) ≡ Some (n + length xs)
  found-last [] y n = λ e t. cond-true (test y) _ _ t ∙ ap Some (sym (add-zero n))
  found-last (x ∷ xs) y n = λ e t. go (test x) (found-last xs y (n + 1)) e t
    where
      go : (b : Bool) → (first_from test (n + 1) xs ≡ None → test y ≡ true → first_from test (n + 1) (xs ++ y ∷ []) ≡ Some (n + 1 + length xs)) → cond b (Some n) (first_from test (n + 1) xs) ≡ None → test y ≡ true → cond b (Some n) (first_from test (n + 1) (xs ++ y ∷ [])) ≡ Some (n + suc (length xs))
      go true f e t = let z : ◌≡◌ {A = ℕ} 0 1 = cc in absurd (omega arith)
      go false f e t = let s : n + 1 + length xs ≡ n + suc (length xs) = omega arith in f e t ∙ ap Some s

-- the first of a row by its meanings is the first of the row
pub first_mapped : {V Y : Type 0} (f : V → Y) (test : Y → Bool) (n : ℕ) (xs : List V) → first_from test n (map f xs) ≡ first_from (λ x. test (f x)) n xs
first_mapped f test n [] = refl
first_mapped f test n (x ∷ xs) = ap (cond (test (f x)) (Some n)) (first_mapped f test (n + 1) xs)

-- counted from one more
pub first_next : {X : Type 0} (test : X → Bool) (n : ℕ) (xs : List X) → first_from test (n + 1) xs ≡ option_map (λ i. i + 1) (first_from test n xs)
first_next test n [] = refl
first_next test n (x ∷ xs) = go (test x) (first_next test (n + 1) xs)
  where
    go : (b : Bool) → first_from test (n + 1 + 1) xs ≡ option_map (λ i. i + 1) (first_from test (n + 1) xs) → cond b (Some (n + 1)) (first_from test (n + 1 + 1) xs) ≡ option_map (λ i. i + 1) (cond b (Some n) (first_from test (n + 1) xs))
    go true e = refl
    go false e = e
