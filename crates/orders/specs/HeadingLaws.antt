-- The order of a listing is an order. Assumes nothing.
use Rattle.std.proofs.Common.{sym, ◌∙◌, inl, inr, ⊎_elim, arith}
use Rattle.std.proofs.lemmas.Bool.{cases_order}
use Rattle.orders.specs.Laws.{OrderLaws}
use Rattle.orders.specs.Headings.{HeadingAbove}
use Rattle.orders.specs.declared.listing.Heading.{Heading}

not_itself : (x : Heading) → HeadingAbove x x → ⊥
not_itself x = ⊎_elim (λ l. omega arith) (λ l. omega (arith, l.1))

carries : (x y z : Heading) → HeadingAbove x y → HeadingAbove y z → HeadingAbove x z
carries x y z =
    ⊎_elim
    (λ l. ⊎_elim (λ m. inl (omega arith)) (λ m. inl (omega (arith, m.0))))
    (λ l. ⊎_elim (λ m. inl (omega (arith, l.0))) (λ m. inr (l.0 ∙ m.0, omega (arith, l.1, m.1))))

pub heading_laws : OrderLaws HeadingAbove
heading_laws = record {
  not_itself = not_itself;
  one_of_two = λ x y different.
      ⊎_elim
      (λ c.
      ⊎_elim (λ t. absurd (different (λ i. record { class = c i; tag = t i })))
      (⊎_elim (λ l. inl (inr (c, l))) (λ l. inr (inr (sym c, l))))
      (cases_order x.tag y.tag))
      (⊎_elim (λ l. inl (inl l)) (λ l. inr (inl l)))
      (cases_order x.class y.class);
  not_both = λ x y p q. not_itself x (carries x y x p q);
  carries = carries;
}
