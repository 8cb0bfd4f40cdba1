use Rattle.std.proofs.Common.{◌≡◌, drop}
use Rattle.report.specs.Registers.{general_text}
use Rattle.report.proofs.Progress.{IsUnderWay}
use Rattle.report.proofs.registers.write_general.Given as goal

abbrev pub invariant-loop-n : goal.invariant-loop-n
invariant-loop-n g l = record {
  text : IsUnderWay (g.K.Sink.taken l.initial.sink) (g.K.Sink.taken l.sink) (general_text 0 l.values) (general_text l.n (drop l.n l.values));
  faults : g.K.Sink.faults l.sink ≡ g.K.Sink.faults l.initial.sink;
}
