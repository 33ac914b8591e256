use Rattle.std.proofs.Common.{◌≡◌, ◌+◌, drop}
use Rattle.rules.specs.Rules.{field_tests_of}
use Rattle.rules.specs.Marks.{mark_tests, marked_tests_count}
use Rattle.rules.proofs.specificity.tests_count.Given as goal

-- the tests that are left give the rest
abbrev pub invariant-loop-test : goal.invariant-loop-test
invariant-loop-test l =
    (l.sum + marked_tests_count l.met (field_tests_of (drop l.test-index l.tests)) ≡ marked_tests_count l.initial.met (field_tests_of l.tests))
    × (mark_tests l.met (field_tests_of (drop l.test-index l.tests)) ≡ mark_tests l.initial.met (field_tests_of l.tests))
