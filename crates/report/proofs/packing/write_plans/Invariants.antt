use Rattle.std.proofs.Common.{◌≡◌, drop, map}
use Rattle.bao_config.specs.Config.{config_data}
use Rattle.outside.proofs.Puts.{Reached}
use Rattle.report.specs.Packing.{cores_packed}
use Rattle.report.proofs.packing.write_plans.Given as goal

abbrev pub invariant-loop-core : goal.invariant-loop-core
invariant-loop-core g l =
    let cfg = config_data l.config in
    record {
      text : Reached (g.K.Sink.taken l.initial.sink) (g.K.Sink.taken l.sink)
          (cores_packed cfg 0 (map (λ plan. plan.entries.items) l.plans))
          (cores_packed cfg l.core (map (λ plan. plan.entries.items) (drop l.core l.plans)));
      faults : g.K.Sink.faults l.sink ≡ g.K.Sink.faults l.initial.sink;
    }
