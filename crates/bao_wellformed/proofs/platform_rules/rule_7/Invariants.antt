use Rattle.std.proofs.Common.{◌≡◌, drop, filter}
use Rattle.bao_config.specs.declared.config.Shmem.{Shmem}
use Rattle.bao_types.specs.ByteRange.{overlaps}
use Rattle.bao_wellformed.proofs.platform_rules.rule_7.Given as goal

abbrev pub invariant-loop-shmem : goal.invariant-loop-shmem
invariant-loop-shmem l =
    filter (λ (shmem : Shmem). overlaps shmem.range l.config.hyp) (drop l.shmem-index l.shmem-items)
    ≡ filter (λ (shmem : Shmem). overlaps shmem.range l.config.hyp) l.config.shmems.items
