-- Adding up what each of a row counts. Assumes nothing.
use Rattle.std.proofs.Common.{◌≡◌, ℕ, ◌+◌, ◌<◌, ◌≤◌, List, [], ◌∷◌, map, length, get_or, drop, vec_items, vec_len, Vec, sym, refl, ap, ◌∙◌, arith}
use Rattle.std.proofs.lemmas.List.{at_drop_more, at_drop_all, length-map}
use Rattle.std.specs.declared.alloc.Global.{Global}
use Rattle.rules.specs.Carried.{carried, sum_along}

-- as many as the code counts
pub counted_vec : {X Y : Type 0} (f : X → Y) (v : Vec X Global) → vec_len v ≡ length (map f (vec_items v))
counted_vec f v = v.ok.0 ∙ sym (length-map (vec_items v) f)

-- `total` adds up what each counts by `count`
module _ {X : Type 0} (total : List X → ℕ) (count : X → ℕ) (adds : (x : X) (ys : List X) → total (x ∷ ys) ≡ count x + total ys) (xs : List X) (i sum : ℕ) where
  -- one more is added, and what is left still gives the whole
  pub sum_more : (x : X) (n : ℕ) → i < length xs → x ≡ get_or xs i x → n ≡ count x → sum + total (drop i xs) ≡ total xs → sum + n + total (drop (i + 1) xs) ≡ total xs
  sum_more x n h e counts inv =
      let step : total (drop i xs) ≡ count x + total (drop (i + 1) xs) = at_drop_more total xs i x h ∙ ap (λ y. total (y ∷ drop (i + 1) xs)) (sym e) ∙ adds x (drop (i + 1) xs) in
      omega arith

  -- what one more counts is part of the whole
  pub sum_part : (x : X) → i < length xs → x ≡ get_or xs i x → sum + total (drop i xs) ≡ total xs → sum + count x ≤ total xs
  sum_part x h e inv = omega (arith, sum_more x (count x) h e refl inv)

  -- none is left
  pub sum_all : length xs ≤ i → total [] ≡ 0 → sum + total (drop i xs) ≡ total xs → sum ≡ total xs
  sum_all h none inv =
      let left : total (drop i xs) ≡ total [] = at_drop_all total xs i h in
      omega arith

-- adding up what each counts, where something is carried along
module _ {K X Y : Type 0} (f : X → Y) (count : K → Y → ℕ) (more : K → Y → K) (xs : List X) (i : ℕ) where
  -- the first of those that are left
  module _ (x : X) (h : i < length xs) (is : x ≡ get_or xs i x) where
    pub along_more : (k k' : K) (sum n whole : ℕ) → n ≡ count k (f x) → k' ≡ more k (f x) → sum + sum_along count more k (map f (drop i xs)) ≡ whole → sum + n + sum_along count more k' (map f (drop (i + 1) xs)) ≡ whole
    along_more k k' sum n whole counts carries inv =
        let step : sum_along count more k (map f (drop i xs)) ≡ count k (f x) + sum_along count more (more k (f x)) (map f (drop (i + 1) xs)) =
        at_drop_more (λ l. sum_along count more k (map f l)) xs i x h
        ∙ ap (λ y. count k (f y) + sum_along count more (more k (f y)) (map f (drop (i + 1) xs))) (sym is) in
        let left : sum_along count more k' (map f (drop (i + 1) xs)) ≡ sum_along count more (more k (f x)) (map f (drop (i + 1) xs)) = ap (λ z. sum_along count more z (map f (drop (i + 1) xs))) carries in
        omega arith

    -- what it counts is part of the whole
    pub along_part : (k : K) (sum whole : ℕ) → sum + sum_along count more k (map f (drop i xs)) ≡ whole → sum + count k (f x) ≤ whole
    along_part k sum whole inv = omega (arith, along_more k (more k (f x)) sum (count k (f x)) whole refl refl inv)

    pub carried-more : (k k' end : K) → k' ≡ more k (f x) → carried more k (map f (drop i xs)) ≡ end → carried more k' (map f (drop (i + 1) xs)) ≡ end
    carried-more k k' end carries inv =
        ap (λ z. carried more z (map f (drop (i + 1) xs))) carries
        ∙ sym (at_drop_more (λ l. carried more k (map f l)) xs i x h ∙ ap (λ y. carried more (more k (f y)) (map f (drop (i + 1) xs))) (sym is))
        ∙ inv

  -- none is left
  pub along_all : length xs ≤ i → (k : K) (sum whole : ℕ) → sum + sum_along count more k (map f (drop i xs)) ≡ whole → sum ≡ whole
  along_all h k sum whole inv =
      let left : sum_along count more k (map f (drop i xs)) ≡ 0 = at_drop_all (λ l. sum_along count more k (map f l)) xs i h in
      omega arith

  pub carried-all : length xs ≤ i → (k end : K) → carried more k (map f (drop i xs)) ≡ end → k ≡ end
  carried-all h k end inv = sym (at_drop_all (λ l. carried more k (map f l)) xs i h) ∙ inv
