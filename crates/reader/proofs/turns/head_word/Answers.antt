use Rattle.std.proofs.Common.{rules, codes, arith}
use Rattle.std.proofs.lemmas.Slice.Eq.{text_from_reads}
use Rattle.reader.proofs.turns.head_word.Goals as goal

pub returns-in-Declaring-literalize : goal.returns-in-Declaring-literalize
returns-in-Declaring-literalize c =
    let e = text_from_reads c.args.word.now (codes "literalize") (omega arith) (search rules) in
    rw e (search rules)

pub returns-in-Commanding-remove : goal.returns-in-Commanding-remove
returns-in-Commanding-remove c =
    let e = text_from_reads c.args.word.now (codes "remove") (omega arith) (search rules) in
    rw e (search rules)
