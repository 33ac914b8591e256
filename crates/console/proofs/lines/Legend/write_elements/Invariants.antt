use Rattle.std.proofs.Common.{◌≡◌, ◌++◌, take}
use Rattle.values.specs.Naming.{held}
use Rattle.rules.specs.Declarations.{classes_of}
use Rattle.console.specs.Listings.{lines_at}
use Rattle.console.proofs.lines.Legend.write_elements.Given as goal

abbrev pub invariant-loop-place : goal.invariant-loop-place
invariant-loop-place g l =
    l.page ≡ l.initial.page ++ lines_at (held l.self.names.now) (classes_of l.self.classes.now) (g.F.Facts.facts l.facts) (take l.place-index l.places)
