-- What elements are listed by, place by place. Assumes nothing.
use Rattle.std.proofs.Common.{◌≡◌, ℕ, zero, suc, ◌+◌, List, [], ◌∷◌, map, length, refl, ap, ◌∙◌, arith}
use Rattle.std.specs.List.{range_with_len}
use Rattle.facts.specs.declared.fact.Fact.{Fact}
use Rattle.facts.specs.Model.{tag_at, fields_at}
use Rattle.orders.specs.declared.listing.Heading.{Heading}
use Rattle.console.specs.Printed.{class_symbol}
use Rattle.console.specs.Listings.{heading_of, headings_of}

-- what the element at a place is listed by
abbrev pub heading_at : List Fact → ℕ → Heading
heading_at fs i = record { class = class_symbol (fields_at fs i); tag = tag_at fs i }

-- behind one fact more every place is one more
later : (f : Fact) (fs : List Fact) (a n : ℕ) → map (heading_at (f ∷ fs)) (range_with_len (suc a) n) ≡ map (heading_at fs) (range_with_len a n)
later f fs a zero = refl
later f fs a (suc n) =
    let e : suc a + 1 ≡ suc (a + 1) = omega arith in
    rw e (ap (λ hs. heading_at fs a ∷ hs) (later f fs (a + 1) n))

-- by place they are the headings
pub headings_by_place : (fs : List Fact) → map (heading_at fs) (range_with_len 0 (length fs)) ≡ headings_of fs
headings_by_place [] = refl
headings_by_place (f ∷ fs) = ap (λ hs. heading_of f ∷ hs) (later f fs 0 (length fs) ∙ headings_by_place fs)
