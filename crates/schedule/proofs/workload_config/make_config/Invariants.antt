use Rattle.std.proofs.Common.{◌≡◌, map}
use Rattle.bao_config.specs.Data.{vm_data}
use Rattle.schedule.specs.Workload.{for_each_below, vm_at}
use Rattle.schedule.proofs.workload_config.make_config.Given as goal

abbrev pub invariant-loop-v : goal.invariant-loop-v
invariant-loop-v l = map vm_data l.vms.items ≡ for_each_below l.v vm_at
