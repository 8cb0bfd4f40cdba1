use Rattle.std.proofs.Common.{sym, subst, ◌∙◌}
use Rattle.std.specs.Prelude.{true, Some, IfSome}
use Rattle.bao_config.specs.Config.{config_data}
use Rattle.bao_config.specs.Fits.{VmFits}
use Rattle.bao_wellformed.proofs.Fits.{got_fits}
use Rattle.bao_wellformed.proofs.Windowed.{windows_sound}
use Rattle.vm_model.specs.Duty.{pended}
use Rattle.vm_model.specs.Interrupts.{with_table}
use Rattle.hypervisor.specs.Taken.{IsLeft, guests_of}
use Rattle.hypervisor.proofs.Calls.{heard_number}
use Rattle.hypervisor.proofs.Seats.{first_holds, has_own, on_board}
use Rattle.hypervisor.proofs.Moves.{left_by_change}
use Rattle.hypervisor.proofs.hyp.Hyp.hear.Goals as goal

pub irq_of-requires-clause-sound : goal.irq_of-requires-clause-sound
irq_of-requires-clause-sound g c = windows_sound (config_data c.args.config.now) c.requires.well_formed

pub seat_at-requires-clause-own : goal.seat_at-requires-clause-own
seat_at-requires-clause-own g c vm is =
    let cfg = config_data c.args.config.now in
    let fit = subst (λ o. IfSome o VmFits) is (got_fits VmFits cfg.vms c.args.vm c.args.config.now.fits.vms.each) in
    fit.cores.long_enough

pub pend-requires-clause-core : goal.pend-requires-clause-core
pend-requires-clause-core g c =
    on_board (config_data c.args.config.now) c.args.self.now (g.B.Board.state c.args.board.now) c.requires.well_formed c.requires.tidy
    c.seat_at.result c.seat_at.ensures.seat

pub pend-requires-clause-own : goal.pend-requires-clause-own
pend-requires-clause-own g c =
    has_own (config_data c.args.config.now) c.args.self.now (g.B.Board.state c.args.board.now) c.requires.well_formed c.requires.tidy
    c.seat_at.result c.seat_at.ensures.seat

pub pend-requires-clause-id : goal.pend-requires-clause-id
pend-requires-clause-id g c =
    heard_number (config_data c.args.config.now) c.args.vm c.args.shmem c.args.event c.in-Some.irq c.args.config.now.fits
    ((c.irq_of.ensures.heard c.in-Some.irq).0 c.in-Some.is)

pub returns-in-Some : goal.returns-in-Some
returns-in-Some g c =
    let cfg = config_data c.args.config.now in let old = c.args.self.now in let m = g.B.Board.state c.args.board.now in
    subst
    (λ o. IsLeft cfg (record { old = old; new = c.pend.new.self; before = m; after = g.B.Board.state c.pend.new.board })
    (record (guests_of cfg old m) { tables = with_table (Some c.args.vm) (pended o) (guests_of cfg old m).tables }))
    (sym c.in-Some.is ∙ c.irq_of.ensures.value)
    (left_by_change cfg c.requires.well_formed c.args.config.now.fits old c.pend.new.self m (g.B.Board.state c.pend.new.board) c.requires.tidy
    c.seat_at.result c.seat_at.ensures.seat c.args.vm 0 c.in-Some.irq (λ state. record state { pending = true })
    c.seat_at.ensures.vm (first_holds c.seat_at.result.own c.in-Some.irq c.seat_at.ensures.own)
    (heard_number cfg c.args.vm c.args.shmem c.args.event c.in-Some.irq c.args.config.now.fits
    ((c.irq_of.ensures.heard c.in-Some.irq).0 c.in-Some.is))
    c.pend.ensures.state c.pend.ensures.powers c.pend.ensures.tables)
