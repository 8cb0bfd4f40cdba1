use Rattle.std.proofs.Common.{ap, sym, subst, ◌∙◌}
use Rattle.std.specs.Prelude.{true, Some}
use Rattle.bao_config.specs.Config.{config_data}
use Rattle.bao_config.specs.Data.{vm_data}
use Rattle.vm_model.specs.Interrupts.{with_table}
use Rattle.hypervisor.specs.Seat.{line_of}
use Rattle.hypervisor.specs.Taken.{IsLeft, guests_of, pended_for}
use Rattle.hypervisor.proofs.Seats.{has_own, has_table, on_board}
use Rattle.hypervisor.proofs.Moves.{left_by_change, line_bound}
use Rattle.hypervisor.proofs.hyp.Hyp.forward_line.Goals as goal

pub pend-requires-clause-core : goal.pend-requires-clause-core
pend-requires-clause-core g c =
    on_board (config_data c.args.config.now) c.args.self.now (g.B.Board.state c.args.board.now) c.requires.well_formed c.requires.tidy
    c.holder-holder.result c.holder-holder.ensures.seat

pub pend-requires-clause-vm : goal.pend-requires-clause-vm
pend-requires-clause-vm g c =
    has_table (config_data c.args.config.now) c.args.self.now (g.B.Board.state c.args.board.now) c.requires.well_formed c.requires.tidy
    c.holder-holder.result c.holder-holder.ensures.seat

pub pend-requires-clause-own : goal.pend-requires-clause-own
pend-requires-clause-own g c =
    has_own (config_data c.args.config.now) c.args.self.now (g.B.Board.state c.args.board.now) c.requires.well_formed c.requires.tidy
    c.holder-holder.result c.holder-holder.ensures.seat

pub pend-requires-clause-id : goal.pend-requires-clause-id
pend-requires-clause-id g c =
    line_bound (config_data c.args.config.now) c.args.config.now.fits c.args.seat.vm c.args.intid c.in-Some.irq (vm_data c.vm_at.result.now)
    c.vm_at.ensures (sym c.irq_of_line.ensures ∙ c.in-Some.is)

pub returns-in-Some : goal.returns-in-Some
returns-in-Some g c =
    let cfg = config_data c.args.config.now in let old = c.args.self.now in let m = g.B.Board.state c.args.board.now in
    subst
    (λ o. IsLeft cfg (record { old = old; new = c.pend.new.self; before = m; after = g.B.Board.state c.pend.new.board })
    (record (guests_of cfg old m) { tables = with_table (Some c.args.seat.vm) (pended_for c.args.seat.own o) (guests_of cfg old m).tables }))
    (sym c.in-Some.is ∙ c.irq_of_line.ensures ∙ ap (λ o. line_of cfg o c.args.intid) (sym c.vm_at.ensures))
    (left_by_change cfg c.requires.well_formed c.args.config.now.fits old c.pend.new.self m (g.B.Board.state c.pend.new.board) c.requires.tidy
    c.holder-holder.result c.holder-holder.ensures.seat c.args.seat.vm c.args.seat.own c.in-Some.irq (λ state. record state { pending = true })
    c.holder-holder.ensures.vm c.holder-holder.ensures.own
    (line_bound cfg c.args.config.now.fits c.args.seat.vm c.args.intid c.in-Some.irq (vm_data c.vm_at.result.now) c.vm_at.ensures
    (sym c.irq_of_line.ensures ∙ c.in-Some.is)) c.pend.ensures.state c.pend.ensures.powers
    c.pend.ensures.tables)
