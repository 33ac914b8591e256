use Rattle.std.proofs.Common.{codes, refl, arith, rules}
use Rattle.std.proofs.lemmas.Slice.Eq.{text_from_reads}
use Rattle.productions.proofs.draft.Draft.action_head.Goals as goal

pub returns-in-modify : goal.returns-in-modify
returns-in-modify c ns = rw (text_from_reads c.args.word.now (codes "modify") (omega arith) (search rules)) (refl, search rules)

pub returns-in-remove : goal.returns-in-remove
returns-in-remove c ns = rw (text_from_reads c.args.word.now (codes "remove") (omega arith) (search rules)) (refl, search rules)
