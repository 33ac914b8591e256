use Rattle.std.proofs.Common.{◌≡◌, false, ◌∙◌, subst, rules}
use Rattle.rows.proofs.Pushed.{pushed_few}
use Rattle.rules.specs.Ruled.{rules_of}
use Rattle.rules.specs.Sizes.{size_meant, together, size_of_all, excessive}
use Rattle.rules.proofs.Entered.{grown}
use Rattle.rules.proofs.rules.Rules.add.Goals as goal

pub invariant_of-self-2 : goal.invariant_of-self-2
invariant_of-self-2 c =
    let old = c.args.self.now in
    let one = c.args.rule in
    let all : size_meant c.together-size.result ≡ size_of_all (rules_of c.push.new.self) =
    grown old.list one _ (c.together-size.ensures ∙ (λ i. together (old.counted i) (c.size.ensures i))) c.push.new.self (search rules) in
    record { few = pushed_few 64 old.list c.push.new.self one c.push.result c.push.ensures.ok c.push.ensures.room c.push.ensures.err old.few; counted = all; roomy = subst (λ s. excessive s ≡ false) all (search rules) }
