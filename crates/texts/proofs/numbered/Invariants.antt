use Rattle.std.proofs.Common.{◌≡◌, ◌-◌, ◌≤◌, vec_items}
use Rattle.texts.specs.Blanks.{numbered}
use Rattle.texts.proofs.numbered.Given as goal

abbrev pub invariant-loop-number : goal.invariant-loop-number
invariant-loop-number l =
    (vec_items l.whole ≡ numbered l.text l.fn.numbers.start (l.number-counter - l.fn.numbers.start))
    × (l.number-counter - l.fn.numbers.start ≤ l.fn.numbers.end - l.fn.numbers.start)
