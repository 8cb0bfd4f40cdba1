use Rattle.std.proofs.Common.{◌≡◌, ◌++◌, map, drop}
use Rattle.std.specs.List.{flat_map}
use Rattle.bao_config.specs.Data.{vm_data}
use Rattle.bao_wellformed.specs.Rules.{vm_ranges}
use Rattle.bao_wellformed.proofs.platform_rules.push_vms.Given as goal

abbrev pub invariant-loop-vm : goal.invariant-loop-vm
invariant-loop-vm l = l.ranges.items ++ flat_map vm_ranges (map vm_data (drop l.vm-index l.vms)) ≡ l.initial.ranges.items ++ flat_map vm_ranges (map vm_data l.vms)
