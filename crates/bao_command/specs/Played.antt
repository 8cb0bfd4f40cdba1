-- The program on a machine of its own.
use Rattle.std.specs.Prelude.{◌≡◌, ℕ, false}
use Rattle.board.specs.Ports.{standard_ports}
use Rattle.report.specs.declared.status.Status.{Status}
use Rattle.bao_run.specs.Answers.{Answers}
use Rattle.bao_run.specs.Call.{BoardUse, Call}

-- With some board, which isn't fitted yet and has the ports of the standard list, the top call answers so, and the board has
-- been entered so often.
abbrev pub IsPlayed : (BoardUse → Call) → Status → ℕ → Type 0
IsPlayed call status entered =
    (board : BoardUse) × (board.before.fitted ≡ false) × (board.before.ports ≡ standard_ports)
    × (board.after.entered ≡ entered) × Answers (call board) status
