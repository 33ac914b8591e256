use Rattle.std.proofs.Common.{◌≡◌, ◌≤◌, ◌-◌, not, Some, None, Option, Bor, refl, sym, ◌∙◌, ap, subst, rules, tests}
use Rattle.std.specs.List.{slice_get}
use Rattle.std.specs.Option.{option_map}
use Rattle.std.proofs.lemmas.Iterator.{YieldsList-from_slice}
use Rattle.std.proofs.lemmas.Iterator.Consumers.{YieldsList-from_filter, nth_from_yields_List}
use Rattle.rules.specs.declared.condition.Condition.{Condition}
use Rattle.rules.proofs.Unnegated.{passing, Named, named}
use Rattle.rules.proofs.conditions.unnegated_class.Goals as goal

classes_of_lent : (o : Option (Bor Condition)) → option_map (λ x. x.now.class) o ≡ option_map (λ x. x.class) (option_map (λ x. x.now) o)
classes_of_lent None = refl
classes_of_lent (Some x) = refl

pub returns : goal.returns
returns c =
    let xs = c.args.conditions.now in
    let first : 1 ≤ c.args.number = search rules in
    let place : c.in_ok-checked_sub.field-0 ≡ c.args.number - 1 = search rules in
    let found = nth_from_yields_List c.nth.result _ c.in_ok-checked_sub.field-0 c.nth.ensures.ran (YieldsList-from_filter _ (λ x. not x.negated) (YieldsList-from_slice xs cc) c.filter.ensures.closure (λ x r q k. search (rules, tests))) in
    let e : c.map.result ≡ option_map (λ x. x.now.class) c.nth.result = search rules in
    subst (Named xs c.args.number)
    (sym (e ∙ classes_of_lent c.nth.result ∙ ap (option_map (λ x. x.class)) found ∙ ap (λ k. option_map (λ x. x.class) (slice_get (passing xs) k)) place))
    (named xs c.args.number first)
