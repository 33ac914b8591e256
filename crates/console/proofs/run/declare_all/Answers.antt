use Rattle.std.proofs.Common.{[], ◌∷◌, ◌++◌, length, ap, ◌∙◌}
use Rattle.words.specs.Words.{rest, text_of}
use Rattle.values.specs.Naming.{held}
use Rattle.rules.specs.Bases.{declaring_classes}
use Rattle.console.specs.Sessions.{reached}
use Rattle.console.proofs.Going.{leads_more, read_more, fewer_left}
use Rattle.console.proofs.run.declare_all.Goals as goal

pub loop-smaller : goal.loop-smaller
loop-smaller c =
    let p = reached (declaring_classes c.loop.base) (held c.loop.names) (rest c.loop.words) in
    let q = reached (declaring_classes c.read_declaration.new.base) (held c.read_declaration.new.names) (rest c.read_declaration.new.words) in
    fewer_left (length (text_of c.args.words.now)) p q
    (read_more (length (text_of c.loop.words)) (length (text_of c.args.words.now)) (ap length c.loop.invariant.1) p q c.in_ok-read_declaration.field-0 c.if-branch.true c.in_ok-read_declaration.ensures.reads)

pub loop-preserved : goal.loop-preserved
loop-preserved c =
    let end = length (text_of c.args.words.now) in
    let start = reached (declaring_classes c.args.base.now) (held c.args.names.now) (rest c.args.words.now) in
    let p = reached (declaring_classes c.loop.base) (held c.loop.names) (rest c.loop.words) in
    let q = reached (declaring_classes c.read_declaration.new.base) (held c.read_declaration.new.names) (rest c.read_declaration.new.words) in (
      (c.loop.invariant.0.0 ++ q ∷ [], leads_more end start c.loop.invariant.0.0 p q c.loop.invariant.0.1 (read_more (length (text_of c.loop.words)) end (ap length c.loop.invariant.1) p q c.in_ok-read_declaration.field-0 c.if-branch.true c.in_ok-read_declaration.ensures.reads)),
      c.in_ok-read_declaration.ensures.text ∙ c.loop.invariant.1,
    )
