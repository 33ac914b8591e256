use Rattle.std.proofs.Common.{◌≡◌, ◌+◌, drop}
use Rattle.rules.specs.Rules.{conditions_of}
use Rattle.rules.specs.Marks.{no_marks, marked_conditions_count}
use Rattle.rules.proofs.specificity.conditions_count.Given as goal

-- the conditions that are left give the rest
abbrev pub invariant-loop-condition : goal.invariant-loop-condition
invariant-loop-condition l = l.sum + marked_conditions_count l.met (conditions_of (drop l.condition-index l.conditions)) ≡ marked_conditions_count no_marks (conditions_of l.conditions)
