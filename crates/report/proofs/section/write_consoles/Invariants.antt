use Rattle.std.proofs.Common.{◌≡◌, drop}
use Rattle.outside.proofs.Puts.{Reached}
use Rattle.board.specs.Ports.{outputs}
use Rattle.report.specs.Section.{consoles_text}
use Rattle.report.proofs.section.write_consoles.Given as goal

abbrev pub invariant-loop-dev : goal.invariant-loop-dev
invariant-loop-dev g l = record {
  text : Reached (g.K.Sink.taken l.initial.sink) (g.K.Sink.taken l.sink)
      (consoles_text (outputs (g.B.Board.state l.board).ports) l.devs)
      (consoles_text (outputs (g.B.Board.state l.board).ports) (drop l.dev-index l.devs));
  faults : g.K.Sink.faults l.sink ≡ g.K.Sink.faults l.initial.sink;
}
