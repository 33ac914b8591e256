use Rattle.std.proofs.Common.{◌≡◌, List, length}
use Rattle.words.specs.Words.{rest, text_of}
use Rattle.values.specs.Naming.{held}
use Rattle.rules.specs.Bases.{declaring_classes}
use Rattle.console.specs.Sessions.{Reached, reached, Leads}
use Rattle.console.proofs.run.declare_all.Given as goal

-- declarations led here from the start
abbrev pub invariant-loop : goal.invariant-loop
invariant-loop l =
    ((steps : List Reached)
    × Leads (length (text_of l.initial.words)) (reached (declaring_classes l.initial.base) (held l.initial.names) (rest l.initial.words)) steps
    (reached (declaring_classes l.base) (held l.names) (rest l.words)))
    × (text_of l.words ≡ text_of l.initial.words)

abbrev pub decreases-loop : goal.decreases-loop
decreases-loop l = length (rest l.words)
