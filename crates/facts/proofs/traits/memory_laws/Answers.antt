use Rattle.facts.proofs.Relations.{memory_laws}
use Rattle.facts.proofs.traits.memory_laws.Goals as goal

pub returns : goal.returns
returns c = memory_laws
