use Rattle.std.proofs.Common.{◌≡◌, map, take}
use Rattle.bao_config.specs.Data.{IpcData, ipc_data}
use Rattle.bao_wellformed.proofs.claim.shmems_of.Given as goal

abbrev pub invariant-loop-ipc : goal.invariant-loop-ipc
invariant-loop-ipc l = l.shmems.items ≡ map (λ (ipc : IpcData). ipc.shmem) (map ipc_data (take l.ipc-index l.ipc-items))
