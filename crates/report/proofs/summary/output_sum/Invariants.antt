use Rattle.std.proofs.Common.{◌≡◌, take}
use Rattle.board.specs.Ports.{outputs}
use Rattle.report.specs.Summary.{checksum}
use Rattle.report.proofs.summary.output_sum.Given as goal

abbrev pub invariant-loop-i : goal.invariant-loop-i
invariant-loop-i g l = l.sum ≡ checksum (take l.i (outputs (g.B.Board.state l.board).ports l.port))
