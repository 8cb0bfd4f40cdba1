use Rattle.std.proofs.Common.{◌≡◌}
use Rattle.report.specs.Section.{run_of}
use Rattle.report.proofs.section.read_group.Given as goal

abbrev pub invariant-loop-i : goal.invariant-loop-i
invariant-loop-i g l = l.bytes.items ≡ run_of (g.B.Board.state l.board).bytes l.at l.i
