use Rattle.std.proofs.Common.{◌≡◌, take, vec_items}
use Rattle.texts.specs.Blanks.{filled}
use Rattle.texts.proofs.filled.Given as goal

abbrev pub invariant-loop-byte : goal.invariant-loop-byte
invariant-loop-byte l = vec_items l.whole ≡ filled l.filler (take l.byte-index l.text)
