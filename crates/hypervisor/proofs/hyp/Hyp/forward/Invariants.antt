use Rattle.std.proofs.Common.{length}
use Rattle.bao_config.specs.Config.{config_data}
use Rattle.gic_core.specs.Lines.{raised_intids}
use Rattle.hypervisor.proofs.Forwarded.{IsForwarding}
use Rattle.hypervisor.proofs.hyp.Hyp.forward.Given as goal

abbrev pub invariant-loop-intid : goal.invariant-loop-intid
invariant-loop-intid g l =
    IsForwarding (config_data l.config) l.seat.core
    (record { old = l.initial.self; new = l.self; before = g.B.Board.state l.initial.board; after = g.B.Board.state l.board })

abbrev pub decreases-loop-intid : goal.decreases-loop-intid
decreases-loop-intid g l = length (raised_intids (g.B.Board.state l.board).lines l.seat.core)
