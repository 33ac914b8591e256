use Rattle.std.proofs.Common.{◌≡◌, length}
use Rattle.words.specs.Words.{rest, text_of}
use Rattle.values.specs.Naming.{held}
use Rattle.facts.specs.Model.{meant}
use Rattle.rules.specs.Bases.{sealed_classes}
use Rattle.console.proofs.Going.{Went}
use Rattle.console.proofs.run.command_all.Given as goal

abbrev pub invariant-loop-next : goal.invariant-loop-next
invariant-loop-next g l =
    Went (length (text_of l.initial.words)) (sealed_classes l.base) (held l.initial.names) (rest l.initial.words)
    (meant g.M.Facts.facts g.M.Memory.last g.M.Memory.room l.initial.memory) l.initial.page
    (held l.names) (rest l.words) (meant g.M.Facts.facts g.M.Memory.last g.M.Memory.room l.memory) l.page
    × (text_of l.words ≡ text_of l.initial.words)

abbrev pub decreases-loop-next : goal.decreases-loop-next
decreases-loop-next g l = length (rest l.words)
