use Rattle.std.proofs.Common.{◌≡◌, ◌<◌, ◌^◌, sum_by, sym, ◌∙◌, rules, arith}
use Rattle.rules.specs.Rules.{action_of}
use Rattle.rules.specs.Sizes.{action_settings}
use Rattle.rules.proofs.Sizes.{settings-sum}
use Rattle.rules.proofs.size.settings_in.Goals as goal

pub sum-requires-clause-fits : goal.sum-requires-clause-fits
sum-requires-clause-fits c =
    let h : sum_by (λ a. action_settings (action_of a)) c.args.actions.now < 2 ^ 64 = omega (arith, c.requires, settings-sum c.args.actions.now) in
    search rules

pub returns : goal.returns
returns c =
    let e : c.sum.result ≡ sum_by (λ a. action_settings (action_of a)) c.args.actions.now = search rules in
    e ∙ sym (settings-sum c.args.actions.now)
