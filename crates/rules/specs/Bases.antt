-- What each state of a rule base holds, and one rule more. Assumes nothing.
use Rattle.std.specs.Prelude.{ℕ, Bool, false, cond, ◌||◌, List, [], ◌∷◌, ◌++◌, length, Ok, Err, Result, ◌==◌, nat_le}
use Rattle.rules.specs.Attributes.{Declared}
use Rattle.rules.specs.Declarations.{classes_of}
use Rattle.rules.specs.Rules.{Rule}
use Rattle.rules.specs.Ruled.{rules_of}
use Rattle.rules.specs.Sizes.{size_of, size_of_all, together, excessive}
use Rattle.rules.specs.declared.base.Declaring.{Declaring}
use Rattle.rules.specs.declared.base.Entering.{Entering}
use Rattle.rules.specs.declared.base.Sealed.{Sealed}
use Rattle.rules.specs.declared.refusal.NotTaken.{NotTaken}
use Rattle.rules.specs.declared.refusal.NotTaken.TheVariants.{Twice, TooMany}
use Rattle.rules.specs.declared.rules.Rules.{Rules}

-- the declared classes of a base in each of its states, in the order of their declaration
abbrev pub declaring_classes : Declaring → List Declared
declaring_classes b = classes_of b.classes

abbrev pub entering_classes : Entering → List Declared
entering_classes b = classes_of b.classes

abbrev pub sealed_classes : Sealed → List Declared
sealed_classes b = classes_of b.classes

-- the rules of a base, by their numbers, which count from 0 in the order of entry
abbrev pub rules_held : Rules → List Rule
rules_held r = rules_of r.list

abbrev pub entering_rules : Entering → List Rule
entering_rules b = rules_held b.rules

abbrev pub sealed_rules : Sealed → List Rule
sealed_rules b = rules_held b.rules

-- whether a rule has this name
abbrev pub rule_named : List Rule → ℕ → Bool
rule_named [] n = false
rule_named (r ∷ rs) n = r.name == n || rule_named rs n

-- a rule whose name another has is refused, then a sixty-fifth, and one for which the base has no room
abbrev pub answer_enter : List Rule → Rule → Result (Unit {0}) NotTaken
answer_enter rs r =
    cond (rule_named rs r.name) (Err Twice)
    (cond (nat_le 64 (length rs) || excessive (together (size_of_all rs) (size_of r))) (Err TooMany) (Ok tt))

-- the rules after that; a refusal changes nothing
abbrev pub after_enter : List Rule → Rule → List Rule
after_enter rs r =
    cond (rule_named rs r.name) rs
    (cond (nat_le 64 (length rs) || excessive (together (size_of_all rs) (size_of r))) rs (rs ++ r ∷ []))
