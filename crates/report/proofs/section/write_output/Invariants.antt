use Rattle.std.proofs.Common.{◌≡◌, drop}
use Rattle.board.specs.Ports.{outputs}
use Rattle.text_lines.specs.Digits.{hex_bytes}
use Rattle.report.proofs.Progress.{IsUnderWay}
use Rattle.report.proofs.section.write_output.Given as goal

abbrev pub invariant-loop-i : goal.invariant-loop-i
invariant-loop-i g l = record {
  text : IsUnderWay (g.K.Sink.taken l.initial.sink) (g.K.Sink.taken l.sink) (hex_bytes (outputs (g.B.Board.state l.board).ports l.port))
      (hex_bytes (drop l.i (outputs (g.B.Board.state l.board).ports l.port)));
  faults : g.K.Sink.faults l.sink ≡ g.K.Sink.faults l.initial.sink;
}
