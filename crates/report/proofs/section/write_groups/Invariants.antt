use Rattle.std.proofs.Common.{◌≡◌, ◌+◌, ◌-◌, ◌*◌}
use Rattle.report.specs.Groups.{groups_text}
use Rattle.report.proofs.Progress.{IsUnderWay}
use Rattle.report.proofs.section.write_groups.Given as goal

abbrev pub invariant-loop-i : goal.invariant-loop-i
invariant-loop-i g l = record {
  text : IsUnderWay (g.K.Sink.taken l.initial.sink) (g.K.Sink.taken l.sink)
      (groups_text (g.B.Board.state l.board).bytes l.groups l.first)
      (groups_text (g.B.Board.state l.board).bytes (l.groups - l.i) l.at);
  place : l.at ≡ l.first + 16 * l.i;
  faults : g.K.Sink.faults l.sink ≡ g.K.Sink.faults l.initial.sink;
}
