use Rattle.std.proofs.Common.{◌≡◌, ℕ, ◌<◌, eqb, Some, sym, arith, rules}
use Rattle.values.proofs.Finding.{found}
use Rattle.rules.specs.Attributes.{declared, field_of}
use Rattle.rules.specs.declared.class.Class.{Class}
use Rattle.rules.proofs.Declared.{fifteen}
use Rattle.languages.proofs.naming.field_named.Goals as goal

-- a class has fields up to 15
field_small : (c : Class) (a f : ℕ) → Some f ≡ field_of (declared c) a → f < 16
field_small c a f h =
    let g = found (λ x. eqb x a) 0 (declared c).attributes 1 f (sym h) in
    omega (arith, g.1, g.2, fifteen c)

pub overflow_cast-result : goal.overflow_cast-result
overflow_cast-result c =
    let h : Some c.in_ok-field.field ≡ field_of (declared c.args.class.now) c.in_ok-number.number = search rules in
    omega (arith, field_small c.args.class.now c.in_ok-number.number c.in_ok-field.field h)

pub invariant_of-result : goal.invariant_of-result
invariant_of-result c =
    let h : Some c.in_ok-field.field ≡ field_of (declared c.args.class.now) c.in_ok-number.number = search rules in
    record { ok = omega (arith, field_small c.args.class.now c.in_ok-number.number c.in_ok-field.field h) }
