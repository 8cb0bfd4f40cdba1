use Rattle.std.proofs.Common.{◌≡◌, ◌++◌, map, take}
use Rattle.vm_create.proofs.shape.push_shmems.Given as goal

abbrev pub invariant-loop-shmem : goal.invariant-loop-shmem
invariant-loop-shmem l = l.used.items ≡ l.initial.used.items ++ map (λ shmem. shmem.range) (take l.shmem-index l.shmems)
