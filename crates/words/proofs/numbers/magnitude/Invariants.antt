use Rattle.std.proofs.Common.{◌≡◌, ◌≤◌, drop}
use Rattle.words.specs.Numbers.{decimal, capped}
use Rattle.words.proofs.numbers.magnitude.Given as goal

-- the digits that are left decide
abbrev pub invariant-loop-digit : goal.invariant-loop-digit
invariant-loop-digit l = record { within : l.value ≤ 4294967296; left : capped (decimal l.value (drop l.digit-index l.digits)) ≡ capped (decimal 0 l.digits) }
