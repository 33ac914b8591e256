use Rattle.std.proofs.Common.{◌≡◌, [], ◌∷◌, ◌++◌, List, map, get_or, codes, sym, ap, ◌∙◌, subst}
use Rattle.std.proofs.lemmas.List.{map-append}
use Rattle.rows.proofs.Pushed.{pushed_keeps, pushed_few}
use Rattle.values.specs.Naming.{held}
use Rattle.values.specs.Spelling.{spelling, Distinct}
use Rattle.values.specs.declared.name.Name.{Name}
use Rattle.values.proofs.Lookups.{pushed_first, pushed_distinct}
use Rattle.values.proofs.names.Names.intern.Goals as goal

pub invariant_of-self-2 : goal.invariant_of-self-2
invariant_of-self-2 c =
    let names = c.args.self.now in
    let name = c.in_ok-new.field-0 in
    let grown : map spelling (names.list ++ name ∷ []) ≡ held names ++ c.args.word.now ∷ [] = map-append spelling names.list (name ∷ []) ∙ ap (λ w. held names ++ w ∷ []) c.in_ok-new.ensures in
    let keeps = λ (P : List Name → Type 0) (old : P names.list) (new : P (names.list ++ name ∷ [])). pushed_keeps P names.list c.push.new.self name c.push.result c.push.ensures.ok c.push.ensures.err old new in
    record {
      few = pushed_few 256 names.list c.push.new.self name c.push.result c.push.ensures.ok c.push.ensures.room c.push.ensures.err names.few;
      nil = keeps (λ ns. get_or (map spelling ns) 0 [] ≡ codes "nil") names.nil (ap (λ l. get_or l 0 []) grown ∙ pushed_first (held names) _ names.nil);
      distinct = keeps (λ ns. Distinct (map spelling ns)) names.distinct (subst Distinct (sym grown) (pushed_distinct (held names) c.args.word.now names.distinct c.in_default.ensures.law));
    }
