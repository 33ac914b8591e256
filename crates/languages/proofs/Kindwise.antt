-- A fact of each step that a state makes, kind by kind. Assumes nothing.
use Rattle.std.proofs.Common.{ℕ, cond, List, [], ℤ, sym, subst}
use Rattle.std.proofs.lemmas.Slice.Eq.{bytes_eq-Decides}
use Rattle.std.proofs.lemmas.Bool.{cond_both}
use Rattle.std.specs.Str.{bytes_eq}
use Rattle.words.specs.Kinds.{Kind, open', close', hat, minus, arrow, open_choice, close_choice, test, number, variable, symbol, illegal}
use Rattle.words.specs.declared.token.Predicate.{Predicate}
use Rattle.languages.specs.declared.refusal.Cause.TheVariants.{IllegalWord, UnexpectedWord}
use Rattle.languages.specs.Senses.{sense}
use Rattle.languages.specs.Machines.{Step, fails, refuse, on_open, on_close, on_hat, on_minus, on_arrow, on_open_choice, on_close_choice, on_test, on_number, on_variable, on_symbol}
use Rattle.languages.proofs.Following.{Legal}

module _ {S E : Type 0} (P : Kind → Step S E → Type 0) where
  -- what no state takes
  pub by_refuse : ((w : List ℕ) → P (illegal w) (fails IllegalWord)) → ((k : Kind) → Legal k → P k (fails UnexpectedWord)) → (k : Kind) → P (sense k) (refuse (sense k))
  by_refuse i u (illegal w) = i w
  by_refuse i u k = u (sense k) (λ v e. cc)

  pub by_open : (x : Step S E) (f : Kind → Step S E) → P open' x → ((k : Kind) → P (sense k) (f (sense k))) → (k : Kind) → P (sense k) (on_open x f (sense k))
  by_open x f h g open' = h
  by_open x f h g k = g k

  pub by_close : (x : Step S E) (f : Kind → Step S E) → P close' x → ((k : Kind) → P (sense k) (f (sense k))) → (k : Kind) → P (sense k) (on_close x f (sense k))
  by_close x f h g close' = h
  by_close x f h g k = g k

  pub by_hat : (x : Step S E) (f : Kind → Step S E) → P hat x → ((k : Kind) → P (sense k) (f (sense k))) → (k : Kind) → P (sense k) (on_hat x f (sense k))
  by_hat x f h g hat = h
  by_hat x f h g k = g k

  pub by_minus : (x : Step S E) (f : Kind → Step S E) → P minus x → ((k : Kind) → P (sense k) (f (sense k))) → (k : Kind) → P (sense k) (on_minus x f (sense k))
  by_minus x f h g minus = h
  by_minus x f h g k = g k

  pub by_arrow : (x : Step S E) (f : Kind → Step S E) → P arrow x → ((k : Kind) → P (sense k) (f (sense k))) → (k : Kind) → P (sense k) (on_arrow x f (sense k))
  by_arrow x f h g arrow = h
  by_arrow x f h g k = g k

  pub by_open_choice : (x : Step S E) (f : Kind → Step S E) → P open_choice x → ((k : Kind) → P (sense k) (f (sense k))) → (k : Kind) → P (sense k) (on_open_choice x f (sense k))
  by_open_choice x f h g open_choice = h
  by_open_choice x f h g k = g k

  pub by_close_choice : (x : Step S E) (f : Kind → Step S E) → P close_choice x → ((k : Kind) → P (sense k) (f (sense k))) → (k : Kind) → P (sense k) (on_close_choice x f (sense k))
  by_close_choice x f h g close_choice = h
  by_close_choice x f h g k = g k

  pub by_test : (x : Predicate → Step S E) (f : Kind → Step S E) → ((p : Predicate) → P (test p) (x p)) → ((k : Kind) → P (sense k) (f (sense k))) → (k : Kind) → P (sense k) (on_test x f (sense k))
  by_test x f h g (test p) = h p
  by_test x f h g k = g k

  pub by_number : (x : ℤ → Step S E) (f : Kind → Step S E) → ((n : ℤ) → P (number n []) (x n)) → ((k : Kind) → P (sense k) (f (sense k))) → (k : Kind) → P (sense k) (on_number x f (sense k))
  by_number x f h g (number n w) = h n
  by_number x f h g k = g k

  pub by_variable : (x : List ℕ → Step S E) (f : Kind → Step S E) → ((w : List ℕ) → P (variable w) (x w)) → ((k : Kind) → P (sense k) (f (sense k))) → (k : Kind) → P (sense k) (on_variable x f (sense k))
  by_variable x f h g (variable w) = h w
  by_variable x f h g k = g k

  pub by_symbol : (x : List ℕ → Step S E) (f : Kind → Step S E) → ((w : List ℕ) → P (symbol w) (x w)) → ((k : Kind) → P (sense k) (f (sense k))) → (k : Kind) → P (sense k) (on_symbol x f (sense k))
  by_symbol x f h g (symbol w) = h w
  by_symbol x f h g k = g k

  -- a symbol that is one certain word, or else another step
  pub by_certain : (name : List ℕ) (x y : Step S E) (w : List ℕ) → P (symbol name) x → P (symbol w) y → P (symbol w) (cond (bytes_eq w name) x y)
  by_certain name x y w p q = cond_both (bytes_eq w name) x y (P (symbol w)) (λ e. subst (λ v. P (symbol v) x) (sym ((bytes_eq-Decides w name).0 e)) p) (λ _. q)
