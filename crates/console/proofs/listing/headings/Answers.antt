use Rattle.std.proofs.Common.{◌≡◌, IfOk, length, subst, vec_items, rules, arith}
use Rattle.std.proofs.lemmas.Iterator.{YieldsList-from_range, YieldsList-from_map, items_from_collect}
use Rattle.console.proofs.Headed.{heading_at, headings_by_place}
use Rattle.console.proofs.listing.headings.Goals as goal

pub returns : goal.returns
returns g c =
    let fs = g.F.Facts.facts c.args.facts.now in
    let n = length fs in
    subst (λ hs. IfOk c.collect.result (λ v. vec_items v ≡ hs)) (headings_by_place fs)
    (items_from_collect c.collect.result c.collect.ensures.ran
    (YieldsList-from_map _ (heading_at fs) (YieldsList-from_range 0 n n (cc) (omega arith)) c.map.ensures.closure (λ x r q k. search rules)))
