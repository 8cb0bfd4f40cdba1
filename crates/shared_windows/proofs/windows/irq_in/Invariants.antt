use Rattle.std.proofs.Common.{◌≡◌, map, drop, find}
use Rattle.bao_config.specs.Data.{ipc_data, vm_data}
use Rattle.shared_windows.specs.Windows.{is_on}
use Rattle.shared_windows.proofs.windows.irq_in.Given as goal

abbrev pub invariant-loop-window : goal.invariant-loop-window
invariant-loop-window l =
    find (is_on l.shmem) (map ipc_data (drop l.window-index l.window-items)) ≡ find (is_on l.shmem) (vm_data l.vm).ipcs
