use Rattle.std.proofs.Common.{◌≡◌, ◌%◌, arith}
use Rattle.std.proofs.Math.Nat.{mod-eq_of_lt}
use Rattle.bao_types.proofs.add.add_carry.Goals as goal

pub returns-then-wide : goal.returns-then-wide
returns-then-wide c =
    let all_x : c.args.x % 18446744073709551616 ≡ c.args.x = mod-eq_of_lt (omega arith) in
    let all_y : c.args.y % 18446744073709551616 ≡ c.args.y = mod-eq_of_lt (omega arith) in
    rw (c.if-wide.true, all_x, all_y) c.sum.ensures

pub returns-else-wide : goal.returns-else-wide
returns-else-wide c = rw c.if-wide.false c.sum-else-wide.ensures
