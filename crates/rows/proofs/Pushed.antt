-- What a push leaves. Assumes nothing.
use Rattle.std.proofs.Common.{◌≡◌, ℕ, ◌+◌, ◌<◌, ◌≤◌, List, [], ◌∷◌, ◌++◌, length, Result, Ok, Err, arith, ap, sym, ◌∙◌, subst}
use Rattle.std.proofs.lemmas.List.{length_push}
use Rattle.std.specs.Result.{OnOk, OnErr}

-- what holds of the things with one more and without it holds of those that a push leaves
pub pushed_keeps : {X E : Type 0} (P : List X → Type 0) (xs ys : List X) (x : X) (r : Result (Unit {0}) E) → OnOk r (ys ≡ xs ++ x ∷ []) → OnErr r (ys ≡ xs) → P xs → P (xs ++ x ∷ []) → P ys
pushed_keeps P xs ys x (Ok _) ok err old new = subst P (sym ok) new
pushed_keeps P xs ys x (Err _) ok err old new = subst P (sym err) old

-- where it refuses only at n things, a push leaves at most n
pub pushed_few : {X E : Type 0} (n : ℕ) (xs ys : List X) (x : X) (r : Result (Unit {0}) E) → OnOk r (ys ≡ xs ++ x ∷ []) → OnOk r (length xs < n) → OnErr r (ys ≡ xs) → length xs ≤ n → length ys ≤ n
pushed_few n xs ys x (Ok _) ok room err few =
    let longer : length ys ≡ length xs + 1 = ap length ok ∙ length_push xs x in
    omega (arith, longer, room)
pushed_few n xs ys x (Err _) ok room err few = subst (λ l. length l ≤ n) (sym err) few
