use Rattle.std.proofs.Common.{◌≡◌, map, drop}
use Rattle.std.specs.List.{position_from}
use Rattle.bao_config.specs.Config.{config_data}
use Rattle.bao_config.specs.Data.{vm_data}
use Rattle.bao_wellformed.specs.Map.{has_core}
use Rattle.vm_model.specs.Cores.{place_of}
use Rattle.hypervisor.proofs.owners.place.Given as goal

abbrev pub invariant-loop-place : goal.invariant-loop-place
invariant-loop-place l = position_from (has_core l.core) l.place (map vm_data (drop l.place l.vm-items)) ≡ place_of (config_data l.config) l.core
