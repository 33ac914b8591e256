use Rattle.std.proofs.Common.{◌≡◌, max, min, [], get_or, length, map, take, arith, sym, ap, ◌∙◌, subst}
use Rattle.std.proofs.lemmas.List.{take-map, length-take}
use Rattle.values.specs.Naming.{held}
use Rattle.values.specs.Spelling.{spelling, Distinct}
use Rattle.values.proofs.Lookups.{taken-first, taken-distinct}
use Rattle.values.proofs.names.Names.keep.Goals as goal

pub invariant_of-self : goal.invariant_of-self
invariant_of-self c =
    let names = c.args.self.now in
    let less : map spelling c.truncate.new.self ≡ take (max c.args.count 1) (held names) = rw (c.truncate.ensures, c.max.ensures) (sym (take-map spelling (max c.args.count 1) names.list)) in
    let shorter : length c.truncate.new.self ≡ min c.max.result (length names.list) = ap length c.truncate.ensures ∙ length-take c.max.result names.list in
    record {
      few = omega (arith, shorter, names.few);
      nil = ap (λ l. get_or l 0 []) less ∙ taken-first (held names) c.args.count names.nil;
      distinct = subst Distinct (sym less) (taken-distinct (held names) (max c.args.count 1) names.distinct);
    }

pub returns : goal.returns
returns c = rw (c.truncate.ensures, c.max.ensures) (sym (take-map spelling (max c.args.count 1) c.args.self.now.list))
