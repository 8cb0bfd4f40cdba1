use Rattle.std.proofs.Common.{◌≡◌, ◌≤◌, ◌*◌, ◌^◌, length, take}
use Rattle.board.specs.Ports.{outputs}
use Rattle.report.specs.Summary.{joined_output, checksum}
use Rattle.report.proofs.summary.joined_output.Given as goal

abbrev pub invariant-loop-dev : goal.invariant-loop-dev
invariant-loop-dev g l =
    let output = joined_output (outputs (g.B.Board.state l.board).ports) (take l.dev-index l.devs) in
    record {
      len : l.joined.len ≡ length output;
      room : l.joined.len ≤ 2 ^ 32 * l.dev-index;
      sum : l.joined.sum ≡ checksum output;
    }
