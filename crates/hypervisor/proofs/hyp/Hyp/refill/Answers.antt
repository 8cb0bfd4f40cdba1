use Rattle.std.proofs.Common.{ap, ◌∙◌}
use Rattle.std.specs.Prelude.{unwrap_or}
use Rattle.bao_types.specs.ListReg.{lists_at}
use Rattle.board.specs.Machine.{with_lists}
use Rattle.vgic_table.specs.Registers.{refilled}
use Rattle.vgic_table.specs.Interrupts.{tables_of}
use Rattle.hypervisor.specs.Hyp.{HypData}
use Rattle.hypervisor.proofs.hyp.Hyp.refill.Goals as goal

pub returns-clause-state : goal.returns-clause-state
returns-clause-state g c =
    let m = g.B.Board.state c.args.board.now in let lists = lists_at m.lists c.args.seat.core in
    c.set_filled.ensures
    ∙ ap (λ filled. with_lists m c.args.seat.core (unwrap_or filled lists))
    (c.refill-lists.ensures.lists
    ∙ ap (λ (hyp : HypData). refilled (tables_of hyp.tables c.args.seat.vm) c.args.seat.own c.lists.result) c.self.view_is
    ∙ ap (λ l. refilled (tables_of c.args.self.now.tables c.args.seat.vm) c.args.seat.own l) c.lists.ensures)
