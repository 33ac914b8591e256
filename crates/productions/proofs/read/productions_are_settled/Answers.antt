use Rattle.productions.proofs.Rests.{one-fits}
use Rattle.productions.proofs.read.productions_are_settled.Goals as goal

pub returns : goal.returns
returns c = λ cs rs ns. one-fits cs rs ns
