use Rattle.std.proofs.Common.{◌≡◌, ◌==◌, drop}
use Rattle.std.specs.List.{position_from}
use Rattle.bao_config.specs.Data.{vm_data}
use Rattle.vm_model.specs.Cores.{virtual_core}
use Rattle.hypervisor.proofs.owners.virtual_core.Given as goal

abbrev pub invariant-loop-place : goal.invariant-loop-place
invariant-loop-place l = position_from (λ own. own == l.core) l.place (drop l.place l.own-items) ≡ virtual_core (vm_data l.vm) l.core
