use Rattle.std.proofs.Common.{sym, subst, ◌∙◌}
use Rattle.bao_config.specs.Config.{config_data}
use Rattle.vm_model.specs.Duty.{done}
use Rattle.hypervisor.specs.Taken.{IsLeft, guests_of}
use Rattle.hypervisor.proofs.Settled.{duty_abort, duty_call, duty_send}
use Rattle.hypervisor.proofs.hyp.Hyp.leave.Goals as goal

pub returns-then-is_call : goal.returns-then-is_call
returns-then-is_call g c =
    let cfg = config_data c.args.config.now in let old = c.args.self.now in let m = g.B.Board.state c.args.board.now in
    let guests = guests_of cfg old m in
    subst
    (λ d. IsLeft cfg (record { old = old; new = c.call.new.self; before = m; after = g.B.Board.state c.call.new.board })
    (done cfg c.args.seat.core d guests))
    (sym (duty_call cfg c.args.seat.core c.args.esr c.args.far guests c.args.seat.vm (sym c.is_call.ensures ∙ c.if-is_call.true)
    c.requires.seat.place)) c.call.ensures

pub returns-then-is_send : goal.returns-then-is_send
returns-then-is_send g c =
    let cfg = config_data c.args.config.now in let old = c.args.self.now in let m = g.B.Board.state c.args.board.now in
    let guests = guests_of cfg old m in
    subst
    (λ d. IsLeft cfg (record { old = old; new = c.send.new.self; before = m; after = g.B.Board.state c.send.new.board })
    (done cfg c.args.seat.core d guests))
    (sym (duty_send cfg c.args.seat.core c.args.esr c.args.far guests c.args.seat.vm c.args.seat.own
    (sym c.is_call.ensures ∙ c.if-is_call.false) (sym c.is_send.ensures ∙ c.if-is_send.true)
    c.requires.seat.place c.requires.seat.number)) c.send.ensures

pub returns : goal.returns
returns g c =
    let cfg = config_data c.args.config.now in let old = c.args.self.now in let m = g.B.Board.state c.args.board.now in
    let guests = guests_of cfg old m in
    subst
    (λ d. IsLeft cfg (record { old = old; new = c.abort.new.self; before = m; after = g.B.Board.state c.abort.new.board })
    (done cfg c.args.seat.core d guests))
    (sym (duty_abort cfg c.args.seat.core c.args.esr c.args.far guests (sym c.is_call.ensures ∙ c.if-is_call.false)
    (sym c.is_send.ensures ∙ c.if-is_send.false))) c.abort.ensures
