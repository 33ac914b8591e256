use Rattle.values.specs.Naming.{held}
use Rattle.rules.specs.Declarations.{classes_of}
use Rattle.words.specs.Words.{rest}
use Rattle.reader.proofs.Answering.{commands_one}
use Rattle.reader.proofs.read.read_command.Goals as goal

pub unreachable-requires : goal.unreachable-requires
unreachable-requires c =
    commands_one (classes_of c.classes.result.now) (held c.args.names.now) _ (rest c.args.words.now) _ c.in_ok-read_form.field-0 c.in-Declaration.field-0 c.in_ok-read_form.ensures.0 c.in-Declaration.is
