use Rattle.std.proofs.Common.{is_ok, sym, ap, ◌∙◌}
use Rattle.values.specs.Naming.{held}
use Rattle.rules.specs.Bases.{entering_classes, entering_rules}
use Rattle.productions.proofs.Answering.{taken-fit, production_taken}
use Rattle.productions.proofs.read.read_production.Goals as goal

pub invariant_of-add : goal.invariant_of-add
invariant_of-add c =
    let base = c.args.base.now in
    let f = taken-fit (entering_classes base) (entering_rules base) (held c.args.names.now) _ _ _ _ base.rules.roomy c.in_ok-name.ensures.0 in
    record {
      matched = f.matched;
      tagged = f.tagged;
      few = f.few;
      met = f.met;
      short = f.short;
      tests = f.tests;
      constants = f.constants;
      settings = f.settings;
      bound = f.bound;
    }

pub unwrap-requires : goal.unwrap-requires
unwrap-requires c =
    let base = c.args.base.now in
    let f = taken-fit (entering_classes base) (entering_rules base) (held c.args.names.now) _ _ _ _ base.rules.roomy c.in_ok-name.ensures.0 in
    ap is_ok (c.add.ensures.answer ∙ f.answered)

pub returns-clause-reads : goal.returns-clause-reads
returns-clause-reads c =
    let base = c.args.base.now in
    production_taken _ (entering_classes base) (entering_rules base) _ (held c.args.names.now) _ _ _ _ c.in_ok-check_length.ensures (sym c.if-not-form_comes.ensures) base.rules.roomy c.in_ok-name.ensures.0 c.add.ensures.after
