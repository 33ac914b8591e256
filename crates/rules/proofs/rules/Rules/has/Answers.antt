use Rattle.std.proofs.Common.{◌==◌, ◌∙◌, rules, tests}
use Rattle.std.proofs.lemmas.Iterator.{YieldsList-from_slice}
use Rattle.std.proofs.lemmas.Iterator.Search.{any_from_yields_List}
use Rattle.rules.proofs.Declared.{rule_found}
use Rattle.rules.proofs.rules.Rules.has.Goals as goal

pub returns : goal.returns
returns c =
    let xs = c.args.self.now.list in
    any_from_yields_List (λ r. r.name == c.args.name) _ _ c.any.result c.any.ensures.ran (YieldsList-from_slice xs cc) (λ x b q k. search (rules, tests))
    ∙ rule_found xs c.args.name
