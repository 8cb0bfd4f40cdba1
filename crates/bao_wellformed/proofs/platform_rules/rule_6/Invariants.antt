use Rattle.std.proofs.Common.{◌≡◌, drop, filter, not}
use Rattle.bao_config.specs.declared.config.Shmem.{Shmem}
use Rattle.bao_config.specs.Config.{config_data}
use Rattle.bao_wellformed.specs.Rules.{lies_in_a_bank}
use Rattle.bao_wellformed.proofs.platform_rules.rule_6.Given as goal

abbrev pub invariant-loop-shmem : goal.invariant-loop-shmem
invariant-loop-shmem l =
    filter (λ (shmem : Shmem). not (lies_in_a_bank (config_data l.config) shmem.range)) (drop l.shmem-index l.shmem-items)
    ≡ filter (λ (shmem : Shmem). not (lies_in_a_bank (config_data l.config) shmem.range)) l.config.shmems.items
