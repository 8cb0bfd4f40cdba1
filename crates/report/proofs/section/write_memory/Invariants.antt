use Rattle.std.proofs.Common.{◌≡◌, ◌≤◌, ◌-◌, ◌*◌}
use Rattle.bao_wellformed.specs.ByteRules.{kind_in}
use Rattle.outside.proofs.Puts.{Reached}
use Rattle.report.specs.Section.{memory_text, all_groups}
use Rattle.report.proofs.section.write_memory.Given as goal

abbrev pub invariant-loop-group : goal.invariant-loop-group
invariant-loop-group g l = record {
  text : Reached (g.K.Sink.taken l.initial.sink) (g.K.Sink.taken l.sink)
      (memory_text (kind_in l.map) (g.B.Board.state l.board).bytes all_groups 0)
      (memory_text (kind_in l.map) (g.B.Board.state l.board).bytes (all_groups - l.group) (16 * l.group));
  low : l.group ≤ all_groups;
  faults : g.K.Sink.faults l.sink ≡ g.K.Sink.faults l.initial.sink;
}

abbrev pub decreases-loop-group : goal.decreases-loop-group
decreases-loop-group g l = all_groups - l.group
