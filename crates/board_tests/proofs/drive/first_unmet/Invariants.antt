use Rattle.std.proofs.Common.{◌≤◌, ◌*◌}
use Rattle.board_tests.specs.Bench.{IsReady}
use Rattle.board_tests.proofs.drive.first_unmet.Given as goal

abbrev pub invariant-loop-shows : goal.invariant-loop-shows
invariant-loop-shows g l = record {
  ready : IsReady (g.B.Board.state l.board);
  spent : (g.B.Board.state l.board).spent ≤ 16 * l.shows-index;
}
