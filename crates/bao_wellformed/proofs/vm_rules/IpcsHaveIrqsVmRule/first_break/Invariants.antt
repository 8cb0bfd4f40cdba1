use Rattle.std.proofs.Common.{◌≡◌, ℕ, map, drop, filter, slice_get}
use Rattle.std.specs.List.{enumerate_from}
use Rattle.bao_config.specs.Data.{IpcData, ipc_data}
use Rattle.bao_wellformed.specs.Rules.{lacks_irqs}
use Rattle.bao_wellformed.proofs.vm_rules.IpcsHaveIrqsVmRule.first_break.Given as goal

abbrev pub invariant-loop-item : goal.invariant-loop-item
invariant-loop-item l =
    let is_broken : ℕ × IpcData → _ = λ (j, ipc). lacks_irqs (slice_get l.config.shmems.items ipc.shmem) ipc in
    filter is_broken (enumerate_from l.item (map ipc_data (drop l.item l.ipc-items)))
    ≡ filter is_broken (enumerate_from 0 (map ipc_data l.vm.ipcs.items))
