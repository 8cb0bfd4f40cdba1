use Rattle.std.proofs.Common.{◌≡◌, map, drop}
use Rattle.std.specs.List.{list_any}
use Rattle.bao_config.specs.Data.{ipc_data, vm_data}
use Rattle.shared_windows.specs.Windows.{is_on}
use Rattle.shared_windows.proofs.windows.has_window.Given as goal

abbrev pub invariant-loop-window : goal.invariant-loop-window
invariant-loop-window l =
    list_any (is_on l.shmem) (map ipc_data (drop l.window-index l.window-items)) ≡ list_any (is_on l.shmem) (vm_data l.vm).ipcs
