use Rattle.reader.proofs.Settling.{settled}
use Rattle.reader.proofs.read.answers_are_settled.Goals as goal

pub returns : goal.returns
returns c = settled
