use Rattle.std.proofs.Common.{◌==◌, length, rules, tests, sym, ◌∙◌, arith}
use Rattle.std.proofs.lemmas.Iterator.{YieldsList-from_range}
use Rattle.std.proofs.lemmas.Iterator.Search.{find_from_yields_List}
use Rattle.std.proofs.lemmas.Iterator.Adapters.{option_map_id}
use Rattle.facts.specs.Model.{tag_at}
use Rattle.facts.proofs.Finding.{find_places}
use Rattle.facts.proofs.traits.place_of.Goals as goal

pub returns : goal.returns
returns g c =
    let fs = g.F.Facts.facts c.args.facts.now in
    let n = length fs in
    sym (option_map_id c.find.result)
    ∙ find_from_yields_List (λ k. tag_at fs k == c.args.tag) _ _ c.find.result c.find.ensures.ran (YieldsList-from_range 0 n n (cc) (omega arith)) (λ x b q k. search (rules, tests))
    ∙ find_places fs c.args.tag
