use Rattle.std.proofs.Common.{◌≡◌, ◌++◌, map, take}
use Rattle.bao_config.specs.declared.config.Shmem.{Shmem}
use Rattle.bao_wellformed.proofs.platform_rules.push_shmems.Given as goal

abbrev pub invariant-loop-shmem : goal.invariant-loop-shmem
invariant-loop-shmem l = l.ranges.items ≡ l.initial.ranges.items ++ map (λ (shmem : Shmem). shmem.range) (take l.shmem-index l.shmems)
