use Rattle.words.proofs.Standing.{are_words}
use Rattle.words.proofs.text.Words.new.Goals as goal

pub returns-clause-law : goal.returns-clause-law
returns-clause-law c = are_words c.args.text.now
