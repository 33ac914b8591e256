use Rattle.std.proofs.Common.{[], length, Some, None, sym, refl, ap, ◌∙◌, subst, inl, inr}
use Rattle.std.proofs.lemmas.List.{append-nil}
use Rattle.std.proofs.lemmas.Result.{IfOk-weaker}
use Rattle.words.specs.Words.{rest, text_of}
use Rattle.values.specs.Naming.{held}
use Rattle.facts.specs.Model.{meant}
use Rattle.rules.specs.Bases.{sealed_classes}
use Rattle.console.specs.Printed.{Appends, reader_refused}
use Rattle.console.specs.Performed.{Prints}
use Rattle.console.proofs.Going.{went_more, went_all, commanded, not_commanded, fewer_commands}
use Rattle.console.proofs.run.command_all.Goals as goal

pub returns-in-Err : goal.returns-in-Err
returns-in-Err g c =
    let m = meant g.M.Facts.facts g.M.Memory.last g.M.Memory.room in
    let end = length (text_of c.args.words.now) in
    let classes = sealed_classes c.args.base.now in
    let ns = held c.loop-next.names in
    let ls = rest c.loop-next.words in
    IfOk-weaker c.write_reader_refusal.result _ _
    (λ x e.
    went_all end classes (held c.args.names.now) (rest c.args.words.now) (m c.args.memory.now) c.args.page.now ns ls (m c.loop-next.memory) c.loop-next.page c.loop-next.invariant.0
    (held c.read_command.new.names) (rest c.read_command.new.words) c.write_reader_refusal.new.page (reader_refused c.in-Err.refusal) e
    (inr (c.in-Err.refusal, not_commanded (length (text_of c.loop-next.words)) end (ap length c.loop-next.invariant.1) classes ns (held c.read_command.new.names) ls (rest c.read_command.new.words) c.in-Err.refusal c.in-Err.ensures.reads, refl)))
    c.write_reader_refusal.ensures

pub loop-next-smaller : goal.loop-next-smaller
loop-next-smaller g c =
    let end = length (text_of c.args.words.now) in
    let classes = sealed_classes c.args.base.now in
    let ns = held c.loop-next.names in
    let ls = rest c.loop-next.words in
    fewer_commands end classes ns (held c.read_command.new.names) ls (rest c.read_command.new.words) c.in-Some.command
    (commanded (length (text_of c.loop-next.words)) end (ap length c.loop-next.invariant.1) classes ns (held c.read_command.new.names) ls (rest c.read_command.new.words) c.in-Ok.next (Some c.in-Some.command) c.in-Some.is c.in-Ok.ensures.reads)

pub loop-next-preserved : goal.loop-next-preserved
loop-next-preserved g c =
    let m = meant g.M.Facts.facts g.M.Memory.last g.M.Memory.room in
    let end = length (text_of c.args.words.now) in
    let classes = sealed_classes c.args.base.now in
    let ns = held c.loop-next.names in
    let ls = rest c.loop-next.words in
    let ms = held c.read_command.new.names in (
      went_more end classes (held c.args.names.now) (rest c.args.words.now) (m c.args.memory.now) c.args.page.now ns ls (m c.loop-next.memory) c.loop-next.page c.loop-next.invariant.0
          ms (rest c.read_command.new.words) (m c.perform.new.memory) c.perform.new.page c.in-Some.command
          (commanded (length (text_of c.loop-next.words)) end (ap length c.loop-next.invariant.1) classes ns ms ls (rest c.read_command.new.words) c.in-Ok.next (Some c.in-Some.command) c.in-Some.is c.in-Ok.ensures.reads)
          c.perform.ensures.after
          (subst (λ k. Appends c.loop-next.page c.perform.new.page (Prints ms k (m c.loop-next.memory) c.in-Some.command)) c.classes-classes.ensures c.in_ok-perform.ensures.prints),
      c.in-Ok.ensures.text ∙ c.loop-next.invariant.1,
    )

pub returns-in_default : goal.returns-in_default
returns-in_default g c =
    let m = meant g.M.Facts.facts g.M.Memory.last g.M.Memory.room in
    let end = length (text_of c.args.words.now) in
    let classes = sealed_classes c.args.base.now in
    let ns = held c.loop-next.names in
    let ls = rest c.loop-next.words in
    went_all end classes (held c.args.names.now) (rest c.args.words.now) (m c.args.memory.now) c.args.page.now ns ls (m c.loop-next.memory) c.loop-next.page c.loop-next.invariant.0
    (held c.read_command.new.names) (rest c.read_command.new.words) c.loop-next.page [] (sym (append-nil c.loop-next.page))
    (inl (commanded (length (text_of c.loop-next.words)) end (ap length c.loop-next.invariant.1) classes ns (held c.read_command.new.names) ls (rest c.read_command.new.words) c.in-Ok.next None c.in_default.is c.in-Ok.ensures.reads, refl))
