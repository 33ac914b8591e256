-- What an element holds. Assumes nothing.
use Rattle.std.specs.Prelude.{ℕ, List, ◌∷◌, replicate}
use Rattle.values.specs.declared.value.Value.{Value}
use Rattle.values.specs.declared.value.Value.TheVariants.{Symbol}
use Rattle.values.specs.declared.element.Element.{Element}

-- the symbol that stands for nothing
abbrev pub nil : Value
nil = Symbol 0

-- the values of an element, its class first
abbrev pub fields_of : Element → List Value
fields_of e = e.fields

-- an element of a class before anything is set: the class, and fifteen unset fields
abbrev pub blank : ℕ → List Value
blank class = Symbol class ∷ replicate 15 nil
