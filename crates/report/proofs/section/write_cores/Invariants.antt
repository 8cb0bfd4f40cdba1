use Rattle.std.proofs.Common.{◌≡◌, drop}
use Rattle.outside.proofs.Puts.{Reached}
use Rattle.report.specs.Section.{cores_text}
use Rattle.report.proofs.section.write_cores.Given as goal

abbrev pub invariant-loop-j : goal.invariant-loop-j
invariant-loop-j g l = record {
  text : Reached (g.K.Sink.taken l.initial.sink) (g.K.Sink.taken l.sink)
      (cores_text l.hyp.powers (g.B.Board.state l.board).cores 0 l.cores)
      (cores_text l.hyp.powers (g.B.Board.state l.board).cores l.j (drop l.j l.cores));
  faults : g.K.Sink.faults l.sink ≡ g.K.Sink.faults l.initial.sink;
}
