use Rattle.std.proofs.Common.{◌≡◌, length}
use Rattle.words.specs.Words.{rest, text_of}
use Rattle.values.specs.Naming.{held}
use Rattle.rules.specs.Bases.{entering_classes, entering_rules}
use Rattle.languages.specs.Machines.{run}
use Rattle.languages.specs.Naming.{Grows}
use Rattle.productions.specs.Machine.{at_opening, turned}
use Rattle.productions.specs.Meaning.{state_of}
use Rattle.productions.proofs.draft.Draft.read.Given as goal

-- the words that are left decide
abbrev pub invariant-loop-word : goal.invariant-loop-word
invariant-loop-word l =
    (run (turned (entering_classes l.base) (entering_rules l.base)) (state_of (held l.names) l.self l.state) (rest l.words) ≡ run (turned (entering_classes l.base) (entering_rules l.base)) (at_opening (held l.initial.names)) (rest l.initial.words))
    × Grows (held l.initial.names) (held l.names)
    × (text_of l.words ≡ text_of l.initial.words)

abbrev pub decreases-loop-word : goal.decreases-loop-word
decreases-loop-word l = length (rest l.words)
