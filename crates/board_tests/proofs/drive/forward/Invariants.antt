use Rattle.std.proofs.Common.{◌≡◌}
use Rattle.board_tests.specs.Bench.{IsReady}
use Rattle.board_tests.proofs.drive.forward.Given as goal

abbrev pub invariant-loop : goal.invariant-loop
invariant-loop g l = record {
  ready : IsReady (g.B.Board.state l.board);
  spent : (g.B.Board.state l.board).spent ≡ (g.B.Board.state l.initial.board).spent;
}
