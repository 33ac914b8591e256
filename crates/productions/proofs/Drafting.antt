-- One thing more in a draft. Assumes nothing.
use Rattle.std.proofs.Common.{◌≡◌, ℕ, false, cond, List, [], ◌∷◌, ◌++◌, map, ℤ, is_ok, is_err, Ok, Err, Result, sym, subst}
use Rattle.words.specs.Kinds.{Kind, kind_of, number}
use Rattle.words.specs.declared.token.Token.{Token}
use Rattle.words.specs.declared.token.Token.TheVariants.{Number}
use Rattle.values.proofs.Mapped.{mapped_push}
use Rattle.languages.specs.Machines.{on_number}
use Rattle.languages.specs.Senses.{sense}
use Rattle.productions.specs.declared.draft.Draft.{Draft}
use Rattle.productions.specs.declared.state.Halt.{Halt}
use Rattle.productions.specs.declared.state.Step.{Step as Turn}
use Rattle.productions.specs.Machine.{Move, on_chosen}
use Rattle.productions.specs.Meaning.{Steps}

-- what was pushed stands at the end
pub pushed : {X Z E : Type 0} (r : Result Z E) (xs ys : List X) (x : X) → false ≡ is_err r → ys ≡ cond (is_ok r) (xs ++ x ∷ []) xs → ys ≡ xs ++ x ∷ []
pushed (Ok z) xs ys x h e = e
pushed (Err z) xs ys x h e = absurd cc

-- and so by its meaning
pub pushed_meaning : {X Y Z E : Type 0} (f : X → Y) (r : Result Z E) (xs ys : List X) (x : X) (y : Y) → false ≡ is_err r → ys ≡ cond (is_ok r) (xs ++ x ∷ []) xs → f x ≡ y → map f ys ≡ map f xs ++ y ∷ []
pushed_meaning f r xs ys x y h e g = mapped_push f xs ys x y (pushed r xs ys x h e) g

-- a number that a word is, as the code hands it on
pub number_step : (ns : List (List ℕ)) (r : Result Turn Halt) (ms : List (List ℕ)) (d : Draft) (x : ℤ → Move) (g : Kind → Move) (t : Token) (n z : ℤ) (b : _) → t ≡ Number n b → z ≡ n → Steps ns r ms d (x z) → Steps ns r ms d (on_number x g (sense (kind_of t)))
number_step ns r ms d x g t n z b is same h = subst (λ u. Steps ns r ms d (on_number x g (sense (kind_of u)))) (sym is) (subst (λ i. Steps ns r ms d (x i)) same h)

-- and the same in a choice
pub chosen_step : (ns : List (List ℕ)) (r : Result Turn Halt) (ms : List (List ℕ)) (d : Draft) (x g : Kind → Move) (t : Token) (n z : ℤ) (b : _) → t ≡ Number n b → z ≡ n → Steps ns r ms d (x (number z [])) → Steps ns r ms d (on_chosen x g (sense (kind_of t)))
chosen_step ns r ms d x g t n z b is same h = subst (λ u. Steps ns r ms d (on_chosen x g (sense (kind_of u)))) (sym is) (subst (λ i. Steps ns r ms d (x (number i []))) same h)
