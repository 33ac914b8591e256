use Rattle.std.proofs.Common.{◌+◌, ap, ◌∙◌, arith}
use Rattle.rules.specs.Rules.{field_tests_of, condition_of}
use Rattle.rules.specs.Marks.{mark_tests, marked_tests_count, mark_condition, marked_condition_counts}
use Rattle.rules.proofs.Marked.{marks_agree}
use Rattle.rules.proofs.Sums.{along_more, along_part, along_all}
use Rattle.rules.proofs.specificity.conditions_count.Goals as goal

pub tests_count-requires : goal.tests_count-requires
tests_count-requires c =
    omega (
      arith,
      marks_agree c.args.conditions.now,
      ap (λ l. marked_tests_count c.loop-condition.met (field_tests_of l)) c.deref.ensures.value,
      along_part condition_of marked_condition_counts mark_condition c.args.conditions.now c.loop-condition.condition-index
          c.condition-item.result c.loop-condition-test.true c.condition-item.is c.loop-condition.met c.loop-condition.sum _ c.loop-condition.invariant,
    )

pub overflow_add-sum : goal.overflow_add-sum
overflow_add-sum c =
    omega (
      arith,
      marks_agree c.args.conditions.now,
      c.tests_count.ensures.value,
      ap (λ l. marked_tests_count c.loop-condition.met (field_tests_of l)) c.deref.ensures.value,
      along_part condition_of marked_condition_counts mark_condition c.args.conditions.now c.loop-condition.condition-index
          c.condition-item.result c.loop-condition-test.true c.condition-item.is c.loop-condition.met c.loop-condition.sum _ c.loop-condition.invariant,
    )

pub overflow_add-sum-in-loop-condition : goal.overflow_add-sum-in-loop-condition
overflow_add-sum-in-loop-condition c =
    omega (
      arith,
      marks_agree c.args.conditions.now,
      c.tests_count.ensures.value,
      ap (λ l. marked_tests_count c.loop-condition.met (field_tests_of l)) c.deref.ensures.value,
      along_part condition_of marked_condition_counts mark_condition c.args.conditions.now c.loop-condition.condition-index
          c.condition-item.result c.loop-condition-test.true c.condition-item.is c.loop-condition.met c.loop-condition.sum _ c.loop-condition.invariant,
    )

pub loop-condition-preserved : goal.loop-condition-preserved
loop-condition-preserved c =
    along_more condition_of marked_condition_counts mark_condition c.args.conditions.now c.loop-condition.condition-index
    c.condition-item.result c.loop-condition-test.true c.condition-item.is c.loop-condition.met c.tests_count.new.met c.loop-condition.sum (1 + c.tests_count.result) _
    (ap (λ n. 1 + n) (c.tests_count.ensures.value ∙ ap (λ l. marked_tests_count c.loop-condition.met (field_tests_of l)) c.deref.ensures.value))
    (c.tests_count.ensures.after ∙ ap (λ l. mark_tests c.loop-condition.met (field_tests_of l)) c.deref.ensures.value)
    c.loop-condition.invariant

pub returns : goal.returns
returns c =
    along_all condition_of marked_condition_counts mark_condition c.args.conditions.now c.loop-condition.condition-index c.loop-condition-test.false
    c.loop-condition.met c.loop-condition.sum _ c.loop-condition.invariant
    ∙ marks_agree c.args.conditions.now
