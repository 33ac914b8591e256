use Rattle.std.proofs.Common.{w32, SFits, sym, rules}
use Rattle.std.proofs.lemmas.Int.{to_z-of_z}
use Rattle.productions.proofs.draft.Draft.at_modify.Goals as goal

pub returns-in-Number : goal.returns-in-Number
returns-in-Number c ns =
    let f : SFits w32 c.in-Number.number = search rules in
    rw (c.in-Number.is, sym (to_z-of_z w32 c.in-Number.number f)) (c.modify.ensures ns)
