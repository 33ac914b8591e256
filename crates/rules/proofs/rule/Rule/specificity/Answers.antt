use Rattle.std.proofs.Common.{vec_items, ap, arith}
use Rattle.rules.specs.Rules.{conditions_of}
use Rattle.rules.specs.Specificity.{specificity_of}
use Rattle.rules.proofs.Marked.{specificity_bound}
use Rattle.rules.proofs.rule.Rule.specificity.Goals as goal

pub conditions_count-requires : goal.conditions_count-requires
conditions_count-requires c =
    let rule = c.args.self.now in
    omega (arith, ap (λ l. specificity_of (conditions_of l)) c.deref.ensures.value, specificity_bound (conditions_of (vec_items rule.conditions)), rule.tests, rule.constants)
