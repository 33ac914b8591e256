use Rattle.std.proofs.Common.{◌^◌, vec_items, sym, ◌∙◌, rules, arith}
use Rattle.std.specs.List.{flat_map}
use Rattle.std.proofs.lemmas.Iterator.{YieldsList-from_slice, YieldsList-from_map}
use Rattle.std.proofs.lemmas.Iterator.Adapters.{YieldsList-from_flat_map}
use Rattle.std.proofs.lemmas.Iterator.Consumers.{YieldsList-at, fits_by_from_yields_list, sum_by_from_yields_List}
use Rattle.rules.specs.Rules.{test_of}
use Rattle.rules.specs.Sizes.{test_constants}
use Rattle.rules.proofs.Sizes.{constants-sum}
use Rattle.rules.proofs.size.constants_in.Goals as goal

pub sum-requires-clause-fits : goal.sum-requires-clause-fits
sum-requires-clause-fits c =
    fits_by_from_yields_list (λ t. test_constants (test_of t.test)) (flat_map (λ x. vec_items x.tests) c.args.conditions.now) c.map.result (2 ^ 64)
    (YieldsList-from_map _ (λ t. test_constants (test_of t.test))
    (YieldsList-at c.map.ensures.source
    (YieldsList-from_flat_map _ _ _ (λ y. y.now) (λ x. vec_items x.tests) _ (λ x u q k. (search rules, λ j b. YieldsList-from_slice (vec_items x.now.tests) (search rules)))
    (YieldsList-from_slice c.args.conditions.now cc) (cc) (cc) (cc) (cc)))
    c.map.ensures.closure (λ x r q k. search rules))
    (omega (arith, c.requires, constants-sum c.args.conditions.now))

pub returns : goal.returns
returns c =
    sum_by_from_yields_List (λ t. test_constants (test_of t.test)) (flat_map (λ x. vec_items x.tests) c.args.conditions.now) c.map.result c.sum.result c.sum.ensures.ran
    (YieldsList-from_map _ (λ t. test_constants (test_of t.test))
    (YieldsList-at c.map.ensures.source
    (YieldsList-from_flat_map _ _ _ (λ y. y.now) (λ x. vec_items x.tests) _ (λ x u q k. (search rules, λ j b. YieldsList-from_slice (vec_items x.now.tests) (search rules)))
    (YieldsList-from_slice c.args.conditions.now cc) (cc) (cc) (cc) (cc)))
    c.map.ensures.closure (λ x r q k. search rules))
    ∙ sym (constants-sum c.args.conditions.now)
