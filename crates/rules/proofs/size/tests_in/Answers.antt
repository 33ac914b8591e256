use Rattle.std.proofs.Common.{◌≡◌, ◌<◌, ◌^◌, ◌+◌, sum_by, vec_len, sym, ◌∙◌, rules, arith}
use Rattle.rules.proofs.Sizes.{tests-sum}
use Rattle.rules.proofs.size.tests_in.Goals as goal

pub sum-requires-clause-fits : goal.sum-requires-clause-fits
sum-requires-clause-fits c =
    let h : sum_by (λ x. 1 + vec_len x.tests) c.args.conditions.now < 2 ^ 64 = omega (arith, c.requires, tests-sum c.args.conditions.now) in
    search rules

pub returns : goal.returns
returns c =
    let e : c.sum.result ≡ sum_by (λ x. 1 + vec_len x.tests) c.args.conditions.now = search rules in
    e ∙ sym (tests-sum c.args.conditions.now)
