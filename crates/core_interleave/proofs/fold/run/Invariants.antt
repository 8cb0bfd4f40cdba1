use Rattle.bao_wellformed.specs.Checked.{checked_data}
use Rattle.core_interleave.proofs.Running.{IsAt}
use Rattle.core_interleave.proofs.fold.run.Given as goal

abbrev pub invariant-loop-event : goal.invariant-loop-event
invariant-loop-event g l =
    IsAt (checked_data l.checked) (record { hyp = l.initial.hyp; machine = g.B.Board.state l.initial.board })
    (record { hyp = l.hyp; machine = g.B.Board.state l.board }) l.events l.event-index
