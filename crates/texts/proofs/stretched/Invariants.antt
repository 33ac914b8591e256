use Rattle.std.proofs.Common.{◌≡◌, ◌++◌, replicate, vec_items}
use Rattle.texts.proofs.stretched.Given as goal

abbrev pub invariant-loop : goal.invariant-loop
invariant-loop l = vec_items l.text ≡ l.begin ++ replicate l.counter l.filler
