-- A row of things, each by its meaning. Assumes nothing.
use Rattle.std.proofs.Common.{◌≡◌, ℕ, ◌<◌, List, [], ◌∷◌, ◌++◌, map, length, get_or, take, sym, ap, ◌∙◌, subst}
use Rattle.std.proofs.lemmas.List.{get_or-map, length-map, map-append, take-map}

module _ {V Y : Type 0} (f : V → Y) (xs ys : List V) where
  -- one more at the end
  pub mapped_push : (v : V) (y : Y) → ys ≡ xs ++ v ∷ [] → f v ≡ y → map f ys ≡ map f xs ++ y ∷ []
  mapped_push v y e g = ap (map f) e ∙ map-append f xs (v ∷ []) ∙ ap (λ z. map f xs ++ z ∷ []) g

  -- the first ones
  pub mapped_take : (n m : ℕ) → m ≡ n → ys ≡ take m xs → map f ys ≡ take n (map f xs)
  mapped_take n m g e = ap (map f) e ∙ sym (take-map f m xs) ∙ ap (λ k. take k (map f xs)) g

  -- the one at a place, as the code reads it
  pub mapped_read : (i : ℕ) (v : V) (d : Y) → ys ≡ xs → v ≡ get_or ys i v → i < length ys → f v ≡ get_or (map f xs) i d
  mapped_read i v d e h l = ap f (h ∙ ap (λ z. get_or z i v) e) ∙ sym (get_or-map f xs i v d (subst (λ z. i < length z) e l))

  -- as many as the code has
  pub mapped_length : ys ≡ xs → length (map f xs) ≡ length ys
  mapped_length e = length-map xs f ∙ ap length (sym e)
