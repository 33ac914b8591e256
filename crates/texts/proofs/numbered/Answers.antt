use Rattle.std.proofs.Common.{◌≡◌, ℕ, suc, ◌+◌, ◌-◌, ◌≤◌, List, ◌++◌, decimal, refl, arith, rules}
use Rattle.texts.specs.Blanks.{filled, numbered}
use Rattle.texts.proofs.numbered.Goals as goal

-- one number more
more : (text : List ℕ) (first n : ℕ) → first ≤ n → numbered text first (n + 1 - first) ≡ numbered text first (n - first) ++ filled (decimal n) text
more text first n le =
    let e : n + 1 - first ≡ suc (n - first) = omega arith in
    let f : first + (n - first) ≡ n = omega arith in
    rw e (rw f refl)

pub loop-number-preserved : goal.loop-number-preserved
loop-number-preserved c = (search (rules, more), omega (arith, c.loop-number-test.true, c.loop-number.auto.number-counter))

pub returns : goal.returns
returns c =
    let e : c.args.numbers.end - c.args.numbers.start ≡ c.loop-number.number-counter - c.args.numbers.start = omega (arith, c.loop-number-test.false, c.loop-number.invariant.1) in
    rw e c.loop-number.invariant.0
