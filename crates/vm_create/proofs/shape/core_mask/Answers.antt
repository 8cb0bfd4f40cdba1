use Rattle.std.proofs.Common.{◌^◌, get_or, arith}
use Rattle.std.proofs.Math.Nat.{mod-le}
use Rattle.std.proofs.lemmas.List.Sums.{sum_by_more_le}
use Rattle.vm_create.proofs.Masks.{bits_below}
use Rattle.vm_create.proofs.shape.core_mask.Goals as goal

pub overflow_add-mask : goal.overflow_add-mask
overflow_add-mask c =
    let cores = c.args.cores.now in
    let all = bits_below 8 cores c.requires.distinct c.requires.low in
    let so_far = sum_by_more_le (λ core. 2 ^ core) cores c.loop-core.core-index 0 c.loop-core-test.true in
    let bit = mod-le (2 ^ get_or cores c.loop-core.core-index 0) 256 in
    omega (arith, all, so_far, bit, c.loop-core.invariant)
