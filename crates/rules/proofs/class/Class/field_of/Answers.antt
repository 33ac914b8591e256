use Rattle.std.proofs.Common.{◌≡◌, ℕ, ◌+◌, Bool, ◌==◌, ◌∙◌, ap, sym, rules, tests}
use Rattle.std.specs.Option.{option_map}
use Rattle.std.proofs.lemmas.Iterator.{YieldsList-from_slice}
use Rattle.std.proofs.lemmas.Iterator.Search.{position_from_yields_List}
use Rattle.std.proofs.lemmas.Iterator.Adapters.{position_from-zero}
use Rattle.rules.specs.Attributes.{declared}
use Rattle.values.proofs.Finding.{first_next}
use Rattle.rules.proofs.class.Class.field_of.Goals as goal

pub returns : goal.returns
returns c =
    let xs = (declared c.args.self.now).attributes in
    let test : ℕ → Bool = λ x. x == c.args.attribute in
    let e : c.map.result ≡ option_map (λ p. p + 1) c.position.result = search rules in
    let found = position_from_yields_List test _ _ c.position.result c.position.ensures.ran (YieldsList-from_slice xs cc) (λ x b q k. search (rules, tests)) ∙ position_from-zero test xs in
    e ∙ ap (option_map (λ p. p + 1)) found ∙ sym (first_next test 0 xs)
