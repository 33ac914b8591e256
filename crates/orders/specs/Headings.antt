-- The order of a listing. Assumes nothing.
use Rattle.std.specs.Prelude.{◌≡◌, ◌<◌, ◌⊎◌}
use Rattle.orders.specs.declared.listing.Heading.{Heading}

-- the lower class symbol stands above, and of one class the older time tag, which is the lower
abbrev pub HeadingAbove : Heading → Heading → Type 0
HeadingAbove x y = (x.class < y.class) ⊎ ((x.class ≡ y.class) × (x.tag < y.tag))
