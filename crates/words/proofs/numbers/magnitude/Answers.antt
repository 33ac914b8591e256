use Rattle.std.proofs.Common.{rules, arith, ◌∙◌}
use Rattle.words.proofs.Digits.{digit_more}
use Rattle.words.proofs.numbers.magnitude.Goals as goal

pub loop-digit-preserved : goal.loop-digit-preserved
loop-digit-preserved c =
    let digit = c.if-not-is_ascii_digit.ensures.cases in
    record {
      within = search rules;
      left = digit_more _ _ _ _ c.loop-digit-test.true digit.0 digit.1 (omega arith) ∙ c.loop-digit.invariant.left;
    }
