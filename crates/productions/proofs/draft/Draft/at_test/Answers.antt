use Rattle.std.proofs.Common.{w32, SFits, sym, rules}
use Rattle.std.proofs.lemmas.Int.{to_z-of_z}
use Rattle.values.specs.Naming.{held}
use Rattle.productions.proofs.draft.Draft.at_test.Goals as goal

pub returns-in-Number : goal.returns-in-Number
returns-in-Number c =
    let f : SFits w32 c.in-Number.n = search rules in
    rw (c.in-Number.is, sym (to_z-of_z w32 c.in-Number.n f)) (c.add_bare_test.ensures (held c.args.names.now))
