use Rattle.std.proofs.Common.{◌≡◌, ◌++◌, map, take}
use Rattle.std.specs.List.{flat_map}
use Rattle.bao_config.specs.declared.config.Dev.{Dev}
use Rattle.bao_config.specs.Data.{IpcData, ipc_data}
use Rattle.bao_wellformed.proofs.claim.irqs_of.Given as goal

abbrev pub invariant-loop-ipc : goal.invariant-loop-ipc
invariant-loop-ipc l =
    l.irqs.items
    ≡ map (λ (dev : Dev). dev.irq) l.vm.devs.items ++ flat_map (λ (ipc : IpcData). ipc.irqs) (map ipc_data (take l.ipc-index l.ipc-items))
