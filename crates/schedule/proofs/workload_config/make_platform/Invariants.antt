use Rattle.std.proofs.Common.{◌≡◌}
use Rattle.schedule.specs.Workload.{for_each_below, port_at}
use Rattle.schedule.proofs.workload_config.make_platform.Given as goal

abbrev pub invariant-loop-v : goal.invariant-loop-v
invariant-loop-v l =
    record {
      cores : l.cores.items ≡ for_each_below l.v (λ core. 16);
      ports : l.ports.items ≡ for_each_below l.v port_at;
    }
