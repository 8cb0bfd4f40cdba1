use Rattle.std.proofs.Common.{◌<◌, ◌^◌, arith}
use Rattle.a64_asm.proofs.Hex.{few_digits}
use Rattle.a64_asm.proofs.number.hex_word.Goals as goal

pub overflow_mul-value : goal.overflow_mul-value
overflow_mul-value c =
    let low : c.loop-byte.value < 2 ^ 28 = few_digits c.loop-byte.byte-index c.loop-byte.value (omega arith) c.loop-byte.invariant.bound in
    omega arith

pub overflow_add-value : goal.overflow_add-value
overflow_add-value c =
    let low : c.loop-byte.value < 2 ^ 28 = few_digits c.loop-byte.byte-index c.loop-byte.value (omega arith) c.loop-byte.invariant.bound in
    omega arith
