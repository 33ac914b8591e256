use Rattle.std.proofs.Common.{not, sym, ◌∙◌, rules, tests}
use Rattle.std.proofs.lemmas.Iterator.{YieldsList-from_slice}
use Rattle.std.proofs.lemmas.Iterator.Consumers.{YieldsList-from_filter, count_from_yields_List}
use Rattle.rules.proofs.Unnegated.{unnegated-length}
use Rattle.rules.proofs.conditions.count_unnegated.Goals as goal

pub returns : goal.returns
returns c =
    let xs = c.args.conditions.now in
    count_from_yields_List _ c.count.result c.count.ensures.ran (YieldsList-from_filter _ (λ x. not x.negated) (YieldsList-from_slice xs cc) c.filter.ensures.closure (λ x r q k. search (rules, tests)))
    ∙ sym (unnegated-length xs)
