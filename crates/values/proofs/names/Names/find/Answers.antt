use Rattle.std.proofs.Common.{◌≡◌, rules, sym, ◌∙◌}
use Rattle.std.specs.Str.{bytes_eq}
use Rattle.values.specs.Spelling.{spelling}
use Rattle.values.specs.Naming.{held, number_of}
use Rattle.values.proofs.Finding.{first_mapped}
use Rattle.values.proofs.Lookups.{by_law}
use Rattle.values.proofs.names.Names.find.Goals as goal

pub returns : goal.returns
returns c =
    let names = c.args.self.now in
    let w = c.args.word.now in
    let same : c.map.result ≡ c.place_of.result = search rules in
    let value : c.map.result ≡ number_of (held names) w = same ∙ c.place_of.ensures.place ∙ sym (first_mapped spelling (λ n. bytes_eq n w) 0 names.list) in
    record { value = value; law = by_law (held names) w c.map.result names.distinct value }
