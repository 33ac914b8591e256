-- The words of a form, one after the other, each with what is wrong with it, and in the end what the form asks for. Assumes nothing.
use Rattle.std.specs.Prelude.{◌≡◌, List, [], ◌∷◌, Some, None, Option}
use Rattle.words.specs.Kinds.{Kind}
use Rattle.languages.specs.Refusals.{Fault}

-- a word of a form, and the rule that it breaks, if any
pub record Judged : Type 0 where
  pub word : Kind
  pub fault : Option Fault

-- a word with what is wrong with it
abbrev pub judge : Kind → Option Fault → Judged
judge k f = record { word = k; fault = f }

-- a word with which nothing can be wrong
abbrev pub fine : Kind → Judged
fine k = judge k None

-- of two rules that a word may break, the first that it breaks; where this is used, the rule with the lower number stands first
abbrev pub or_fault : Option Fault → Option Fault → Option Fault
or_fault None g = g
or_fault (Some f) g = Some f

-- the words of a form, each judged where everything before it is right, and then what the form asks for
pub data Script (E : Type 0) : Type 0 where
  then' : Judged → Script E → Script E
  asks : E → Script E

-- the words with what is wrong with each
abbrev pub judged_in : {E : Type 0} → Script E → List Judged
judged_in (then' j x) = j ∷ judged_in x
judged_in (asks e) = []

-- what is asked for in the end
abbrev pub asked_by : {E : Type 0} → Script E → E
asked_by (then' j x) = asked_by x
asked_by (asks e) = e

-- nothing is wrong with any of the words
abbrev pub Faultless : List Judged → Type 0
Faultless [] = Unit {0}
Faultless (j ∷ js) = (j.fault ≡ None) × Faultless js
