use Rattle.bao_config.specs.Config.{config_data}
use Rattle.hypervisor.proofs.Targets.{IsSentBelow}
use Rattle.hypervisor.proofs.hyp.Hyp.pend_targets.Given as goal

abbrev pub invariant-loop-core : goal.invariant-loop-core
invariant-loop-core g l =
    IsSentBelow (config_data l.config) l.seat.vm l.seat.own l.value l.fn.self (g.B.Board.state l.fn.board) l.core l.self
    (g.B.Board.state l.board)
