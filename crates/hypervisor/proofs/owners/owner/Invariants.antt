use Rattle.std.proofs.Common.{◌≡◌, map, drop, find}
use Rattle.bao_config.specs.Config.{config_data}
use Rattle.bao_config.specs.Data.{vm_data}
use Rattle.bao_wellformed.specs.Map.{has_core, owner}
use Rattle.hypervisor.proofs.owners.owner.Given as goal

abbrev pub invariant-loop-vm : goal.invariant-loop-vm
invariant-loop-vm l = find (has_core l.core) (map vm_data (drop l.vm-index l.vm-items)) ≡ owner (config_data l.config) l.core
