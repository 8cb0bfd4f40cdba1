use Rattle.std.proofs.Common.{◌≡◌, drop}
use Rattle.std.specs.List.{flat_map}
use Rattle.outside.proofs.Puts.{Reached}
use Rattle.outside.proofs.tests.put_all.Given as goal

abbrev pub invariant-loop-text : goal.invariant-loop-text
invariant-loop-text g l = record {
  faults : g.K.Sink.faults l.sink ≡ g.K.Sink.faults l.initial.sink;
  reached : Reached (g.K.Sink.taken l.initial.sink) (g.K.Sink.taken l.sink)
      (flat_map (λ text. text.items) l.texts) (flat_map (λ text. text.items) (drop l.text-index l.texts));
}
