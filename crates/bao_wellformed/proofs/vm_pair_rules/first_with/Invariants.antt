use Rattle.std.proofs.Common.{◌≡◌, ◌+◌, ◌-◌, ◌≤◌, length, drop}
use Rattle.bao_config.specs.Config.{config_data}
use Rattle.bao_config.specs.Data.{vm_data}
use Rattle.bao_wellformed.specs.Break.{first}
use Rattle.bao_wellformed.proofs.Firsts.{joined_from}
use Rattle.bao_wellformed.proofs.vm_pair_rules.first_with.Given as goal

abbrev pub invariant-loop-later : goal.invariant-loop-later
invariant-loop-later g l =
    record {
      low : l.later ≤ length l.config.vms.items;
      rest :
          first (joined_from vm_data (g.R.VmPairRule.breaks (config_data l.config) l.place (vm_data l.vm)) l.later (drop l.later l.config.vms.items))
          ≡ first (joined_from vm_data (g.R.VmPairRule.breaks (config_data l.config) l.place (vm_data l.vm)) (l.place + 1) (drop (l.place + 1) l.config.vms.items));
    }

abbrev pub decreases-loop-later : goal.decreases-loop-later
decreases-loop-later g l = length l.config.vms.items - l.later
