use Rattle.productions.proofs.Saying.{said}
use Rattle.productions.proofs.read.productions_are_said.Goals as goal

pub returns : goal.returns
returns c = said
