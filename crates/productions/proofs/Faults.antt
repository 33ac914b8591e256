-- What it says of a word that nothing is wrong with it. Assumes nothing.
use Rattle.std.proofs.Common.{◌≡◌, ℕ, ◌<◌, Bool, true, false, cond, leb, Some, None, Option, refl, ap, ◌∙◌, arith, leb-false}
use borrow.Author.Tests.{lt-leb}
use Rattle.std.proofs.lemmas.Bool.{cond-false}
use Rattle.languages.specs.Refusals.{Fault, over_limit}
use Rattle.languages.specs.Scripts.{or_fault}
use Rattle.productions.specs.Sofar.{full}

-- a rule that is not broken, where its test says that it is, or that it is kept
pub no_fault : {F : Type 0} (b : Bool) (f : F) (o : Option F) → cond b (Some f) o ≡ None → (b ≡ false) × (o ≡ None)
no_fault true f o e = let z : ◌≡◌ {A = ℕ} 0 1 = cc in absurd (omega arith)
no_fault false f o e = (refl, e)

pub no_lack : {F : Type 0} (b : Bool) (f : F) (o : Option F) → cond b o (Some f) ≡ None → (b ≡ true) × (o ≡ None)
no_lack true f o e = (refl, e)
no_lack false f o e = let z : ◌≡◌ {A = ℕ} 0 1 = cc in absurd (omega arith)

-- neither of two rules is broken
pub neither : (f g : Option Fault) → or_fault f g ≡ None → (f ≡ None) × (g ≡ None)
neither None g e = (refl, e)
neither (Some f) g e = let z : ◌≡◌ {A = ℕ} 0 1 = cc in absurd (omega arith)

pub both_none : (f g : Option Fault) → f ≡ None → g ≡ None → or_fault f g ≡ None
both_none f g e h = ap (λ x. or_fault x g) e ∙ h

-- there is room for one more
pub room : (most n : ℕ) → full most n ≡ None → n < most
room most n e = leb-false most n (no_fault (leb most n) over_limit None e).0

pub has_room : (most n : ℕ) → n < most → full most n ≡ None
has_room most n h = cond-false (leb most n) _ _ (lt-leb most n h)
