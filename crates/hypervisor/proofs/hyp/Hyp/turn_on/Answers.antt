use Rattle.std.proofs.Common.{ap, ◌∙◌}
use Rattle.std.proofs.lemmas.List.{set-set}
use Rattle.bao_types.specs.ListReg.{free_registers}
use Rattle.board.specs.Machine.{Machine, restarted}
use Rattle.hypervisor.proofs.hyp.Hyp.turn_on.Goals as goal

pub returns-clause-state : goal.returns-clause-state
returns-clause-state g c =
    let m = g.B.Board.state c.args.board.now in let core = c.args.seat.core in
    let started : Machine = restarted m core c.args.start c.args.arg in
    c.reset_core.ensures ∙ ap (λ s. restarted s core c.args.start c.args.arg) c.take_back.ensures.state
    ∙ ap (λ lists. record started { lists = lists }) (set-set m.lists core free_registers free_registers)
