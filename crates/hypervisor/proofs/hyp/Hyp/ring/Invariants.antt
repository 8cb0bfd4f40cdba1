use Rattle.bao_config.specs.Config.{config_data}
use Rattle.hypervisor.proofs.Left.{IsRung}
use Rattle.hypervisor.proofs.hyp.Hyp.ring.Given as goal

abbrev pub invariant-loop-vm : goal.invariant-loop-vm
invariant-loop-vm g l =
    IsRung (config_data l.config) l.caller l.shmem l.event l.fn.self (g.B.Board.state l.fn.board) l.vm l.self (g.B.Board.state l.board)
