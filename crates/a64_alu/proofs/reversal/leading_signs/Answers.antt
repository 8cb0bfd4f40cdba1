use Rattle.std.proofs.Common.{◌<◌, arith}
use Rattle.std.specs.Int.Count.{count_leading_zeros}
use Rattle.a64_alu.proofs.Signs.{some_leading}
use Rattle.a64_alu.proofs.reversal.leading_signs.Goals as goal

pub overflow_sub-result : goal.overflow_sub-result
overflow_sub-result c =
    let some : 0 < count_leading_zeros c.width.result c.without_sign.result =
    some_leading c.width.result c.without_sign.result (omega arith) c.without_sign.ensures.bound in
    rw (c.leading_zeros.ensures, ← c.width.ensures.value) (omega (arith, some))
