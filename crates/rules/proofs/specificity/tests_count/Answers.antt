use Rattle.std.proofs.Common.{arith}
use Rattle.rules.specs.Rules.{field_test_of}
use Rattle.rules.specs.Marks.{mark_field, marked_field_counts}
use Rattle.rules.proofs.Sums.{along_more, along_part, along_all, carried-more, carried-all}
use Rattle.rules.proofs.specificity.tests_count.Goals as goal

pub overflow_add-sum : goal.overflow_add-sum
overflow_add-sum c =
    omega (
      arith,
      c.test_counts-sum.ensures,
      along_part field_test_of marked_field_counts mark_field c.args.tests.now c.loop-test.test-index
          c.test-item.result c.loop-test-test.true c.test-item.is c.loop-test.met c.loop-test.sum _ c.loop-test.invariant.0,
    )

pub loop-test-preserved : goal.loop-test-preserved
loop-test-preserved c = (
  along_more field_test_of marked_field_counts mark_field c.args.tests.now c.loop-test.test-index
      c.test-item.result c.loop-test-test.true c.test-item.is c.loop-test.met c.mark_test.new.met c.loop-test.sum c.test_counts-sum.result _
      c.test_counts-sum.ensures c.mark_test.ensures c.loop-test.invariant.0,
  carried-more field_test_of marked_field_counts mark_field c.args.tests.now c.loop-test.test-index
      c.test-item.result c.loop-test-test.true c.test-item.is c.loop-test.met c.mark_test.new.met _ c.mark_test.ensures c.loop-test.invariant.1,
)

pub returns : goal.returns
returns c = record {
  value =
      along_all field_test_of marked_field_counts mark_field c.args.tests.now c.loop-test.test-index c.loop-test-test.false
      c.loop-test.met c.loop-test.sum _ c.loop-test.invariant.0;
  after =
      carried-all field_test_of marked_field_counts mark_field c.args.tests.now c.loop-test.test-index c.loop-test-test.false
      c.loop-test.met _ c.loop-test.invariant.1;
}
