-- One word more, in a reader that goes from state to state. Assumes nothing.
use Rattle.std.proofs.Common.{◌≡◌, ℕ, ◌≤◌, max, List, ◌∷◌, ◌++◌, length, take, sym, ap, ◌∙◌, append_assoc, arith}
use Rattle.std.proofs.lemmas.List.{take-append-le, take_all}
use Rattle.words.specs.Kinds.{Kind}
use Rattle.words.specs.Words.{Lexeme}
use Rattle.languages.specs.declared.refusal.Cause.{Cause}
use Rattle.languages.specs.Senses.{sense}
use Rattle.languages.specs.Machines.{Step, onward, whole, fails, Outcome, taken, stopped, on_step, run}
use Rattle.languages.specs.Naming.{Grows}

module _ {S E : Type 0} (turned : S → Kind → Step S E) (s : S) (l : Lexeme) (ls before : List Lexeme) (o : Outcome E) (b : before ≡ l ∷ ls) (h : run turned s before ≡ o) where
  -- a word that leads on
  pub went_on : (t : S) → onward t ≡ turned s (sense l.kind) → run turned t ls ≡ o
  went_on t e = ap (λ x. on_step x (λ t. run turned t ls) (λ e. taken e ls) (λ c. stopped c (l ∷ ls))) e ∙ ap (run turned s) (sym b) ∙ h

  -- the last word of a form
  pub ended_with : (e : E) → whole e ≡ turned s (sense l.kind) → o ≡ taken e ls
  ended_with e t = sym h ∙ ap (run turned s) b ∙ ap (λ x. on_step x (λ t. run turned t ls) (λ e. taken e ls) (λ c. stopped c (l ∷ ls))) (sym t)

  -- a word that is refused
  pub failed_at : (c : Cause) → fails c ≡ turned s (sense l.kind) → o ≡ stopped c (l ∷ ls)
  failed_at c t = sym h ∙ ap (run turned s) b ∙ ap (λ x. on_step x (λ t. run turned t ls) (λ e. taken e ls) (λ c. stopped c (l ∷ ls))) (sym t)

pub grows_on : (ns ms os : List (List ℕ)) → Grows ns ms → Grows ms os → Grows ns os
grows_on ns ms os g h = (g.0 ++ h.0, h.1 ∙ ap (λ l. l ++ h.0) g.1 ∙ append_assoc ns g.0 h.0)

-- the names as they were, of which there is one at least
pub kept-names : (ns ms os : List (List ℕ)) (n : ℕ) → 1 ≤ length ns → n ≡ length ns → Grows ns ms → os ≡ take (max n 1) ms → os ≡ ns
kept-names ns ms os n some e g h =
    let k : max n 1 ≡ length ns = omega arith in
    h ∙ ap (λ l. take (max n 1) l) g.1 ∙ ap (λ i. take i (ns ++ g.0)) k ∙ take-append-le (length ns) ns g.0 (omega arith) ∙ take_all (length ns) ns (omega arith)
