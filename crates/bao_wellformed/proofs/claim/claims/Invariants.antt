use Rattle.std.proofs.Common.{◌≡◌, ◌++◌, drop}
use Rattle.bao_config.specs.Data.{vm_data}
use Rattle.bao_wellformed.specs.Claims.{claims_of_vm}
use Rattle.bao_wellformed.proofs.Firsts.{joined_from}
use Rattle.bao_wellformed.proofs.claim.claims.Given as goal

abbrev pub invariant-loop-place : goal.invariant-loop-place
invariant-loop-place l =
    l.all.items ++ joined_from vm_data (claims_of_vm l.claimed) l.place (drop l.place l.config.vms.items)
    ≡ joined_from vm_data (claims_of_vm l.claimed) 0 l.config.vms.items
