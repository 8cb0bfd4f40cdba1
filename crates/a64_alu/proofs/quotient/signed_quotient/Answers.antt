use Rattle.std.proofs.Common.{◌≤◌, ◌<◌, ◌-◌, ◌^◌, arith}
use Rattle.std.proofs.lemmas.Nat.{one_shl}
use Rattle.a64_alu.proofs.Signs.{quotient_high_high, quotient_high_low, quotient_low_high, quotient_low_low}
use Rattle.a64_alu.proofs.quotient.signed_quotient.Goals as goal

pub returns-in-true-true : goal.returns-in-true-true
returns-in-true-true c =
    let sign = one_shl (c.args.width - 1) 64 (omega arith) in
    let n_high : 2 ^ (c.args.width - 1) ≤ c.args.n = omega (arith, sign, c.in-true-true.is-0) in
    let m_high : 2 ^ (c.args.width - 1) ≤ c.args.m = omega (arith, sign, c.in-true-true.is-1) in
    rw
    (c.magnitude.ensures.value, c.magnitude-in-true-true.ensures.value)
    (quotient_high_high c.args.width c.args.n c.args.m c.requires.some n_high c.requires.n m_high c.requires.m)

pub returns-in-true-false : goal.returns-in-true-false
returns-in-true-false c =
    let sign = one_shl (c.args.width - 1) 64 (omega arith) in
    let n_high : 2 ^ (c.args.width - 1) ≤ c.args.n = omega (arith, sign, c.in-true-false.is-0) in
    let m_low : c.args.m < 2 ^ (c.args.width - 1) = omega (arith, sign, c.in-true-false.is-1) in
    rw
    (c.negated.ensures, c.magnitude-in-true-false.ensures.value)
    (quotient_high_low c.args.width c.args.n c.args.m c.requires.some n_high c.requires.n m_low)

pub returns-in-false-true : goal.returns-in-false-true
returns-in-false-true c =
    let sign = one_shl (c.args.width - 1) 64 (omega arith) in
    let n_low : c.args.n < 2 ^ (c.args.width - 1) = omega (arith, sign, c.in-false-true.is-0) in
    let m_high : 2 ^ (c.args.width - 1) ≤ c.args.m = omega (arith, sign, c.in-false-true.is-1) in
    rw
    (c.negated-in-false-true.ensures, c.magnitude-in-false-true.ensures.value)
    (quotient_low_high c.args.width c.args.n c.args.m c.requires.some n_low c.requires.n m_high c.requires.m)

pub returns-in-false-false : goal.returns-in-false-false
returns-in-false-false c =
    let sign = one_shl (c.args.width - 1) 64 (omega arith) in
    let n_low : c.args.n < 2 ^ (c.args.width - 1) = omega (arith, sign, c.in-false-false.is-0) in
    let m_low : c.args.m < 2 ^ (c.args.width - 1) = omega (arith, sign, c.in-false-false.is-1) in
    quotient_low_low c.args.width c.args.n c.args.m n_low c.requires.n m_low
