use Rattle.bao_config.specs.Config.{config_data}
use Rattle.hypervisor.proofs.Answered.{AreBack}
use Rattle.hypervisor.proofs.hyp.Hyp.take_all_back.Given as goal

abbrev pub invariant-loop-own : goal.invariant-loop-own
invariant-loop-own g l =
    AreBack (config_data l.config) l.vm
    (record { old = l.fn.self; new = l.self; before = g.B.Board.state l.fn.board; after = g.B.Board.state l.board }) l.own
