use Rattle.std.proofs.Common.{◌≡◌, [], length, Ok, ap, ◌∙◌, arith}
use Rattle.words.specs.Words.{rest, text_of}
use Rattle.values.specs.Naming.{held}
use Rattle.facts.specs.Model.{model}
use Rattle.facts.specs.Plain.{plain_model, plain_room}
use Rattle.rules.specs.Bases.{declaring_classes, sealed_classes}
use Rattle.console.specs.Sessions.{reached, left}
use Rattle.console.proofs.Going.{from_start, commands-whole}
use Rattle.console.proofs.run.run.Goals as goal

pub returns : goal.returns
returns c =
    let text = c.args.text.now in
    let w = c.new-words.result in
    let d = c.declare_all.new in
    let n = c.new-memory in
    let room : plain_room n.result ≡ 256 = omega (arith, n.ensures.room, c.deref_mut.ensures.len, c.in_ok-places.ensures.len) in
    let same : plain_model n.result ≡ model [] 0 256 = λ i. model (n.ensures.facts i) (n.ensures.last i) (room i) in
    let q = left (held c.command_all.new.names) (rest c.command_all.new.words) (plain_model c.command_all.new.memory) in
    let end = ap length c.new-words.ensures.text in (
      Ok tt,
      reached (declaring_classes d.base) (held d.names) (rest d.words),
      from_start text (length (text_of w)) (declaring_classes c.in_ok-base.base) (held c.in_ok-names.names) (rest w) (Ok tt) (reached (declaring_classes d.base) (held d.names) (rest d.words)) end c.in_ok-base.ensures c.in_ok-names.ensures c.new-words.ensures.words c.in_default.ensures.all,
      (
        q,
        rw c.into_bytes-2.ensures (commands-whole (length (text_of d.words)) (length text) (sealed_classes c.seal-base.result) (declaring_classes d.base) (held d.names) (rest d.words) (plain_model n.result) (model [] 0 256) q c.new-page.result c.command_all.new.page
            (ap length c.declare_all.ensures.text ∙ end) c.new-page.ensures (c.seal-base.ensures.classes ∙ c.enter.ensures.classes) same c.in_ok-command_all.ensures),
      ),
    )
