use Rattle.std.proofs.Common.{length, refl}
use Rattle.words.specs.Words.{rest, text_of}
use Rattle.values.specs.Naming.{held}
use Rattle.values.proofs.Lookups.{some_name}
use Rattle.rules.specs.Bases.{entering_classes, entering_rules}
use Rattle.languages.proofs.Steps.{kept-names}
use Rattle.productions.proofs.Rests.{takes}
use Rattle.productions.proofs.Answering.{not_drafted}
use Rattle.productions.proofs.read.read_draft.Goals as goal

pub returns : goal.returns
returns c =
    let base = c.args.base.now in
    (takes (entering_classes base) (entering_rules base) (held c.args.names.now) (rest c.args.words.now) _ _ c.in_default.ensures.0, c.in_default.ensures.2)

pub returns-in-Err : goal.returns-in-Err
returns-in-Err c =
    let base = c.args.base.now in
    let names = c.args.names.now in
    let words = c.args.words.now in
    let l = c.read.new in
    let same = kept-names (held names) (held l.names) (held c.keep.new.self) c.count-count.result (some_name names) c.count-count.ensures c.in-Err.ensures.1 c.keep.ensures in
    (not_drafted (entering_classes base) (entering_rules base) (held names) (held l.names) (held c.keep.new.self) (rest words) (rest l.words) (rest words) (length (text_of words)) l.self c.in-Err.trouble c.in-Err.ensures.0 same refl, refl)
