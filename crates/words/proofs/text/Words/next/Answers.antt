use Rattle.std.proofs.Common.{rules, sym, ◌∙◌}
use Rattle.words.proofs.Scans.{step}
use Rattle.words.proofs.text.Words.next.Goals as goal
use Rattle.words.specs.declared.text.turn.Turn.TheVariants.{Pass, Ended}

pub loop-at-preserved : goal.loop-at-preserved
loop-at-preserved c =
    let told = c.in-Pass.ensures in
    record {
      left = sym (step _ _ c.loop-at.state _ _ Pass c.loop-at-test.true c.loop-at.invariant.begun c.class_of.ensures told.told told.after) ∙ c.loop-at.invariant.left;
      begun = search rules;
      text = c.loop-at.invariant.text;
    }

pub returns-in-Ended-clause-gave : goal.returns-in-Ended-clause-gave
returns-in-Ended-clause-gave c =
    let told = c.in-Ended.ensures in
    let more = step _ _ c.loop-at.state _ _ (Ended c.in-Ended.start) c.loop-at-test.true c.loop-at.invariant.begun c.class_of.ensures told.told told.after in
    rw (c.word_token.ensures.kind, c.loop-at.invariant.text) (sym c.loop-at.invariant.left ∙ more)
