use Rattle.std.proofs.Common.{◌≡◌, map, drop, find}
use Rattle.bao_config.specs.Data.{vm_data}
use Rattle.bao_wellformed.specs.Checked.{checked_data}
use Rattle.bao_wellformed.specs.Map.{has_port}
use Rattle.vm_create.proofs.shape.port_mask.Given as goal

abbrev pub invariant-loop-vm : goal.invariant-loop-vm
invariant-loop-vm l =
    find (has_port l.port) (map vm_data (drop l.vm-index l.vm-items)) ≡ find (has_port l.port) (checked_data l.checked).vms
