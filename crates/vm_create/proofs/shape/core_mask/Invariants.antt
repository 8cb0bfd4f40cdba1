use Rattle.std.proofs.Common.{◌≡◌, ◌^◌, take, sum_by}
use Rattle.vm_create.proofs.shape.core_mask.Given as goal

abbrev pub invariant-loop-core : goal.invariant-loop-core
invariant-loop-core l = l.mask ≡ sum_by (λ core. 2 ^ core) (take l.core-index l.cores)
