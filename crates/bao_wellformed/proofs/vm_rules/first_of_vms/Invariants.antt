use Rattle.std.proofs.Common.{◌≡◌, drop}
use Rattle.bao_config.specs.Config.{config_data}
use Rattle.bao_config.specs.Data.{vm_data}
use Rattle.bao_wellformed.specs.Break.{first}
use Rattle.bao_wellformed.proofs.Firsts.{joined_from}
use Rattle.bao_wellformed.proofs.vm_rules.first_of_vms.Given as goal

abbrev pub invariant-loop-place : goal.invariant-loop-place
invariant-loop-place g l =
    first (joined_from vm_data (g.R.VmRule.breaks (config_data l.config)) l.place (drop l.place l.config.vms.items))
    ≡ first (joined_from vm_data (g.R.VmRule.breaks (config_data l.config)) 0 l.config.vms.items)
