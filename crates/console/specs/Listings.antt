-- The listing of working memory. Assumes nothing.
use Rattle.std.specs.Prelude.{◌≡◌, ℕ, List, map}
use Rattle.std.specs.List.{flat_map}
use Rattle.values.specs.Elements.{fields_of}
use Rattle.facts.specs.declared.fact.Fact.{Fact}
use Rattle.facts.specs.Model.{tag_at, fields_at}
use Rattle.orders.specs.declared.listing.Heading.{Heading}
use Rattle.orders.specs.Headings.{HeadingAbove}
use Rattle.orders.specs.Listed.{Listed}
use Rattle.rules.specs.Attributes.{Declared}
use Rattle.console.specs.Printed.{class_symbol, element_line}

-- what an element is listed by: its class symbol and its time tag
abbrev pub heading_of : Fact → Heading
heading_of f = record { class = class_symbol (fields_of f.element); tag = f.tag }

-- what each element is listed by, oldest first
abbrev pub headings_of : List Fact → List Heading
headings_of fs = map heading_of fs

-- the line of the element at a place
abbrev pub line_at : List (List ℕ) → List Declared → List Fact → ℕ → List ℕ
line_at names classes fs place = element_line names classes (tag_at fs place) (fields_at fs place)

-- the lines of the elements at these places, one after the other
abbrev pub lines_at : List (List ℕ) → List Declared → List Fact → List ℕ → List ℕ
lines_at names classes fs places = flat_map (line_at names classes fs) places

-- the bytes are the listing: a line for each element, the lower class symbol first, and of one class the older time tag
abbrev pub Lists : List (List ℕ) → List Declared → List Fact → List ℕ → Type 0
Lists names classes fs bytes = (places : List ℕ) × Listed HeadingAbove (headings_of fs) places × (bytes ≡ lines_at names classes fs places)
