use Rattle.std.proofs.Common.{length, refl}
use Rattle.words.specs.Words.{rest, text_of}
use Rattle.values.specs.Naming.{held}
use Rattle.values.proofs.Lookups.{some_name}
use Rattle.rules.specs.Declarations.{classes_of}
use Rattle.languages.proofs.Steps.{kept-names}
use Rattle.reader.proofs.Answering.{took, took_none, stopped_at}
use Rattle.reader.proofs.read.read_form.Goals as goal

pub returns-in-Ok : goal.returns-in-Ok
returns-in-Ok c =
    (took c.args.phase (classes_of c.args.classes.now) (held c.args.names.now) (rest c.args.words.now) _ _ c.in-Ok.ensures.0, c.in-Ok.ensures.2)

pub returns-in-Err : goal.returns-in-Err
returns-in-Err c =
    let names = c.args.names.now in
    let classes = classes_of c.args.classes.now in
    let stop = c.in-Err.ensures.0 in (
      kept-names (held names) (held c.read_words.new.names) (held c.keep.new.self) c.count-count.result (some_name names) c.count-count.ensures c.in-Err.ensures.1 c.keep.ensures,
      refl,
      took_none c.args.phase classes (held names) (rest c.args.words.now) stop.0 c.in-Err.refusal.cause stop.1,
      stopped_at c.args.phase classes (held names) (rest c.args.words.now) stop.0 (length (text_of c.args.words.now)) c.in-Err.refusal.cause c.in-Err.refusal.place stop.1 stop.2,
    )
