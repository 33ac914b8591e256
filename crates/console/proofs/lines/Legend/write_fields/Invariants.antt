use Rattle.std.proofs.Common.{◌≡◌, ◌+◌, ◌++◌, drop}
use Rattle.values.specs.Naming.{held}
use Rattle.facts.specs.Model.{fields_at}
use Rattle.rules.specs.Attributes.{declared}
use Rattle.console.specs.Printed.{fields_text}
use Rattle.console.proofs.lines.Legend.write_fields.Given as goal

-- what is written, and then the fields that are left, is the whole
abbrev pub invariant-loop-i : goal.invariant-loop-i
invariant-loop-i g l =
    l.page ++ fields_text (held l.self.names.now) (l.i + 1) (drop l.i (declared l.class).attributes) (fields_at (g.F.Facts.facts l.facts) l.place)
    ≡ l.initial.page ++ fields_text (held l.self.names.now) 1 (declared l.class).attributes (fields_at (g.F.Facts.facts l.facts) l.place)
