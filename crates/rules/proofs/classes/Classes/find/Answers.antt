use Rattle.std.proofs.Common.{◌≡◌, ◌==◌, ◌∙◌, ap, rules, tests}
use Rattle.std.specs.Option.{option_map}
use Rattle.std.proofs.lemmas.Iterator.{YieldsList-from_slice}
use Rattle.std.proofs.lemmas.Iterator.Search.{find_from_yields_List}
use Rattle.rules.specs.Attributes.{declared}
use Rattle.rules.proofs.Declared.{found-class}
use Rattle.rules.proofs.classes.Classes.find.Goals as goal

pub returns : goal.returns
returns c =
    let xs = c.args.self.now.list in
    let e : c.copied.result ≡ option_map (λ x. x.now) c.find.result = search rules in
    let found = find_from_yields_List (λ x. x.name == c.args.name) _ _ c.find.result c.find.ensures.ran (YieldsList-from_slice xs cc) (λ x b q k. search (rules, tests)) in
    ap (option_map declared) (e ∙ found) ∙ found-class xs c.args.name
