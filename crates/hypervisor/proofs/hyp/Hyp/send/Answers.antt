use Rattle.std.proofs.Common.{refl, ap, subst, ◌∙◌}
use Rattle.std.specs.Prelude.{Some}
use Rattle.a64_execute.specs.Branch.{advanced}
use Rattle.a64_state.specs.Registers.{x_of}
use Rattle.bao_config.specs.Config.{config_data}
use Rattle.board.specs.Machine.{core_at}
use Rattle.vm_model.specs.Duty.{Send, done}
use Rattle.vm_model.specs.Interrupts.{with_table}
use Rattle.vm_model.specs.Sent.{sent}
use Rattle.hypervisor.specs.Taken.{IsLeft, guests_of}
use Rattle.hypervisor.proofs.Answered.{left_core}
use Rattle.hypervisor.proofs.Left.{left_tidy}
use Rattle.hypervisor.proofs.Seats.{on_board}
use Rattle.hypervisor.proofs.hyp.Hyp.send.Goals as goal

pub register-value-requires-clause-core : goal.register-value-requires-clause-core
register-value-requires-clause-core g c =
    on_board (config_data c.args.config.now) c.args.self.now (g.B.Board.state c.args.board.now) c.requires.well_formed c.requires.tidy c.args.seat
    c.requires.seat

pub skip-requires-clause-core : goal.skip-requires-clause-core
skip-requires-clause-core g c =
    let cfg = config_data c.args.config.now in let old = c.args.self.now in let m = g.B.Board.state c.args.board.now in
    let mid = c.pend_targets.new.self in let between = g.B.Board.state c.pend_targets.new.board in
    on_board cfg mid between c.requires.well_formed (left_tidy cfg old mid m between _ c.requires.tidy c.pend_targets.ensures refl)
    c.args.seat c.requires.seat

pub returns : goal.returns
returns g c =
    let cfg = config_data c.args.config.now in let old = c.args.self.now in let m = g.B.Board.state c.args.board.now in
    let mid = c.pend_targets.new.self in let between = g.B.Board.state c.pend_targets.new.board in
    let after = g.B.Board.state c.skip.new.self in let core = c.args.seat.core in let v = c.args.seat.vm in
    let own = c.args.seat.own in let value = c.register-value.result in let guests = guests_of cfg old m in
    subst
    (λ value. IsLeft cfg (record { old = old; new = mid; before = m; after = after }) (done cfg core (Send v own value) guests))
    (c.register-value.ensures ∙ ap (x_of (core_at m.cores core)) c.sent_register.ensures.value)
    (left_core cfg old mid m between after (record guests { tables = with_table (Some v) (sent own value) guests.tables })
    c.pend_targets.ensures core advanced c.skip.ensures)
