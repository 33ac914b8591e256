use Rattle.productions.proofs.Keeping.{rules-kept}
use Rattle.productions.proofs.read.productions_keep_the_rules.Goals as goal

pub returns : goal.returns
returns c = rules-kept
