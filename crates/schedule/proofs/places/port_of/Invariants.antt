use Rattle.std.proofs.Common.{◌≡◌, drop, map}
use Rattle.std.specs.List.{list_any}
use Rattle.bao_config.specs.Config.{config_data}
use Rattle.bao_config.specs.Data.{vm_data}
use Rattle.bao_wellformed.specs.Map.{has_port}
use Rattle.schedule.proofs.places.port_of.Given as goal

abbrev pub invariant-loop-vm : goal.invariant-loop-vm
invariant-loop-vm l =
    list_any (has_port l.port) (map vm_data (drop l.vm-index l.vm-items)) ≡ list_any (has_port l.port) (config_data l.config).vms
