use Rattle.std.proofs.Common.{◌≤◌, ◌-◌, ◌^◌, sym, arith}
use Rattle.std.proofs.lemmas.Nat.{one_shl}
use Rattle.a64_alu.specs.Shifts.{shifted}
use Rattle.a64_alu.proofs.Signs.{shifted_high}
use Rattle.a64_alu.proofs.shift.shifted_with_sign.Goals as goal

pub returns-else-value-width-clause-value : goal.returns-else-value-width-clause-value
unfolding shifted
returns-else-value-width-clause-value c =
    let high : 2 ^ (c.args.width - 1) ≤ c.args.value =
    omega (arith, one_shl (c.args.width - 1) 64 (omega arith)) in
    rw
    (c.inverted-else-value-width.ensures.value, c.inverted.ensures.value)
    (sym (shifted_high c.args.width c.args.value c.args.amount (omega arith) high c.requires.value))
