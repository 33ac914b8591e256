use Rattle.std.proofs.Common.{rules}
use Rattle.productions.proofs.draft.Draft.at_remove.Goals as goal

pub returns-in-Number : goal.returns-in-Number
returns-in-Number c ns = rw c.in-Number.is (search rules)
