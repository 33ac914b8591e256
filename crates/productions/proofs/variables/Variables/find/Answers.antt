use Rattle.std.proofs.Common.{get_or, sym, ap, ◌∙◌}
use Rattle.std.specs.Str.{bytes_eq}
use Rattle.std.proofs.lemmas.List.{get_or-map}
use Rattle.values.proofs.Finding.{first_mapped}
use Rattle.productions.specs.Sofar.{nobody}
use Rattle.productions.specs.Meaning.{met_of}
use Rattle.productions.proofs.variables.Variables.find.Goals as goal

pub returns-in_err-number : goal.returns-in_err-number
returns-in_err-number c =
    rw c.from_residual.ensures (first_mapped met_of (λ v. bytes_eq v.word c.args.word.now) 0 c.args.self.now.list ∙ sym c.in_err-number.ensures.place)

pub returns : goal.returns
returns c =
    let list = c.args.self.now.list in
    let i = c.in_ok-number.number in
    let v = c.index-as_slice-number.result in (
      first_mapped met_of (λ v. bytes_eq v.word c.args.word.now) 0 list ∙ sym c.in_ok-number.ensures.place,
      get_or-map met_of list i v nobody c.in_ok-number.ensures.inside ∙ ap met_of (sym (c.index-as_slice-number.is ∙ ap (λ l. get_or l i v) c.as_slice.ensures.items)),
    )
