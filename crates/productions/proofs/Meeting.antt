-- Variables that are met, and those that were. Assumes nothing.
use Rattle.std.proofs.Common.{◌≡◌, ℕ, ◌<◌, ◌≤◌, Bool, true, false, cond, not, ◌&&◌, ◌||◌, eqb, leb, List, [], ◌∷◌, ◌++◌, length, get_or, is_some, Some, None, Option, unwrap_or, sym, refl, ap, ◌∙◌, ne_eqb, le-leb}
use borrow.Author.Tests.{lt-leb}
use Rattle.values.specs.Spelling.{nameable}
use Rattle.languages.specs.Refusals.{Fault, wrong_variable, over_limit}
use Rattle.productions.specs.Sofar.{Met, first_met, nobody, met_fault_among, unbound_among, number_among, met_too}

-- 1 to 24 bytes are fit for a name
pub fit_name : (w : List ℕ) → 1 ≤ length w → length w ≤ 24 → nameable w ≡ true
fit_name w some short = ap (λ b. b && leb (length w) 24) (le-leb 1 (length w) some) ∙ le-leb (length w) 24 short

-- a variable that was not met
module _ (vs : List Met) (w : List ℕ) (n : ℕ) (new : first_met vs w ≡ None) where
  abbrev limit : Bool → Bool → Option Fault
  limit b d = cond (b || not d) (Some over_limit) None

  pub too_many : 16 ≤ length vs → met_fault_among vs n true w (first_met vs w) ≡ Some over_limit
  too_many h = ap (met_fault_among vs n true w) new ∙ ap (λ b. limit b (nameable w)) (le-leb 16 (length vs) h)

  pub too_long : nameable w ≡ false → met_fault_among vs n true w (first_met vs w) ≡ Some over_limit
  too_long h = ap (met_fault_among vs n true w) new ∙ ap (limit (leb 16 (length vs))) h ∙ go (leb 16 (length vs))
    where
      go : (b : Bool) → cond (b || true) (Some over_limit) None ≡ Some over_limit
      go true = refl
      go false = refl

  pub met-first : length vs < 16 → nameable w ≡ true → met_fault_among vs n true w (first_met vs w) ≡ None
  met-first h g = ap (met_fault_among vs n true w) new ∙ ap (λ b. limit b (nameable w)) (lt-leb 16 (length vs) h) ∙ ap (limit false) g

  pub number-new : length vs ≡ number_among vs w
  number-new = sym (ap (λ o. unwrap_or o (length vs)) new)

  pub with_new : (negated : Bool) → vs ++ record { word = w; negated = negated; condition = n } ∷ [] ≡ met_too vs negated n w
  with_new negated = sym (ap (λ o. cond (is_some o) vs (vs ++ record { word = w; negated = negated; condition = n } ∷ [])) new)

-- a variable that was met, and stands at the place i
module _ (vs : List Met) (w : List ℕ) (i : ℕ) (at : Some i ≡ first_met vs w) (v : Met) (is : get_or vs i nobody ≡ v) where
  pub strays : (n : ℕ) (binds : Bool) → v.negated ≡ true → (v.condition ≡ n → ⊥) → met_fault_among vs n binds w (first_met vs w) ≡ Some wrong_variable
  strays n binds t ne =
      ap (met_fault_among vs n binds w) (sym at)
      ∙ ap (λ x. cond (x.negated && not (eqb x.condition n)) (Some wrong_variable) None) is
      ∙ ap (λ b. cond (b && not (eqb v.condition n)) (Some wrong_variable) None) t
      ∙ ap (λ b. cond (not b) (Some wrong_variable) None) (ne_eqb v.condition n ne)

  pub meets_again : (n : ℕ) (binds : Bool) → (v.negated && not (eqb v.condition n)) ≡ false → met_fault_among vs n binds w (first_met vs w) ≡ None
  meets_again n binds t =
      ap (met_fault_among vs n binds w) (sym at)
      ∙ ap (λ x. cond (x.negated && not (eqb x.condition n)) (Some wrong_variable) None) is
      ∙ ap (λ b. cond b (Some wrong_variable) None) t

  pub number-met : i ≡ number_among vs w
  number-met = ap (λ o. unwrap_or o (length vs)) at

  pub with_met : (negated : Bool) (n : ℕ) → vs ≡ met_too vs negated n w
  with_met negated n = ap (λ o. cond (is_some o) vs (vs ++ record { word = w; negated = negated; condition = n } ∷ [])) at

  pub unbound : v.negated ≡ true → unbound_among vs (first_met vs w) ≡ Some wrong_variable
  unbound t = ap (unbound_among vs) (sym at) ∙ ap (λ x. cond x.negated (Some wrong_variable) None) is ∙ ap (λ b. cond b (Some wrong_variable) None) t

  pub is_bound : v.negated ≡ false → unbound_among vs (first_met vs w) ≡ None
  is_bound t = ap (unbound_among vs) (sym at) ∙ ap (λ x. cond x.negated (Some wrong_variable) None) is ∙ ap (λ b. cond b (Some wrong_variable) None) t
