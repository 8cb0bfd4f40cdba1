use Rattle.std.proofs.Common.{◌≡◌, drop, map}
use Rattle.outside.proofs.Puts.{Reached}
use Rattle.report.specs.Registers.{named, nonzero_lines}
use Rattle.report.proofs.registers.write_nonzero.Given as goal

abbrev pub invariant-loop-register : goal.invariant-loop-register
invariant-loop-register g l = record {
  text : Reached (g.K.Sink.taken l.initial.sink) (g.K.Sink.taken l.sink)
      (nonzero_lines (map (λ register. named register.0.now register.1) l.registers))
      (nonzero_lines (map (λ register. named register.0.now register.1) (drop l.register-index l.registers)));
  faults : g.K.Sink.faults l.sink ≡ g.K.Sink.faults l.initial.sink;
}
