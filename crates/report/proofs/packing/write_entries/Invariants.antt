use Rattle.std.proofs.Common.{◌≡◌, drop}
use Rattle.outside.proofs.Puts.{Reached}
use Rattle.report.specs.Packing.{entries_text}
use Rattle.report.proofs.packing.write_entries.Given as goal

abbrev pub invariant-loop-i : goal.invariant-loop-i
invariant-loop-i g l = record {
  text : Reached (g.K.Sink.taken l.initial.sink) (g.K.Sink.taken l.sink) (entries_text 0 l.entries)
      (entries_text l.i (drop l.i l.entries));
  faults : g.K.Sink.faults l.sink ≡ g.K.Sink.faults l.initial.sink;
}
