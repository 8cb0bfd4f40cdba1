use Rattle.std.proofs.Common.{◌≤◌, ◌-◌, ◌*◌, ◌/◌, ◌+◌, ◌^◌, ap, arith}
use Rattle.std.proofs.lemmas.Nat.{shl_whole}
use Rattle.std.proofs.Math.Pow.{pow_mono}
use Rattle.a64_alu.proofs.Bits.{rotated_below}
use Rattle.a64_alu.proofs.shift.rotated.Goals as goal

pub overflow_add-result : goal.overflow_add-result
overflow_add-result c =
    let fits : 2 ^ c.args.width ≤ 2 ^ 64 = pow_mono c.requires.width in
    rw
    (shl_whole c.low.result c.args.amount (c.args.width - c.args.amount) 64 c.low.ensures.bound (omega arith), c.low.ensures.value)
    (omega (arith, rotated_below c.args.width c.args.value c.args.amount (omega arith) c.requires.value))

pub returns-clause-value : goal.returns-clause-value
returns-clause-value c =
    rw
    (shl_whole c.low.result c.args.amount (c.args.width - c.args.amount) 64 c.low.ensures.bound (omega arith))
    (ap (λ n. c.args.value / 2 ^ c.args.amount + n * 2 ^ (c.args.width - c.args.amount)) c.low.ensures.value)

pub returns-clause-bound : goal.returns-clause-bound
returns-clause-bound c =
    rw
    (shl_whole c.low.result c.args.amount (c.args.width - c.args.amount) 64 c.low.ensures.bound (omega arith), c.low.ensures.value)
    (rotated_below c.args.width c.args.value c.args.amount (omega arith) c.requires.value)
