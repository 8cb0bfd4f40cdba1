use Rattle.std.proofs.Common.{ap, sym, subst, ◌∙◌}
use Rattle.std.specs.Prelude.{slice_set}
use Rattle.std.specs.Option.{option_map}
use Rattle.std.proofs.lemmas.Option.{slice_get_within}
use Rattle.bao_config.specs.Config.{config_data}
use Rattle.bao_config.specs.Data.{vm_data}
use Rattle.hypercalls.specs.declared.power.Power.TheVariants.{Parked}
use Rattle.vm_model.specs.Duty.{done}
use Rattle.hypervisor.specs.Access.{access_of}
use Rattle.hypervisor.specs.Taken.{IsLeft, guests_of}
use Rattle.hypervisor.proofs.Left.{left_powers}
use Rattle.hypervisor.proofs.Settled.{abort_answered, abort_parked}
use Rattle.hypervisor.proofs.hyp.Hyp.abort.Goals as goal

pub vm_at-requires : goal.vm_at-requires
vm_at-requires g c =
    slice_get_within (config_data c.args.config.now).vms c.args.seat.vm c.requires.seat.is.vm c.requires.seat.is.place

pub returns-in-Some : goal.returns-in-Some
returns-in-Some g c =
    let cfg = config_data c.args.config.now in let old = c.args.self.now in let m = g.B.Board.state c.args.board.now in
    subst
    (λ d. IsLeft cfg (record { old = old; new = c.answer_access.new.self; before = m; after = g.B.Board.state c.answer_access.new.board })
    (done cfg c.args.seat.core d (guests_of cfg old m)))
    (abort_answered cfg c.args.seat c.requires.seat (vm_data c.vm_at.result.now) c.vm_at.ensures c.args.esr c.args.far
    (access_of c.in-Some.access) (sym (ap (option_map access_of) c.in-Some.is) ∙ c.frame_access.ensures.value)) c.answer_access.ensures

pub returns-in-None : goal.returns-in-None
returns-in-None g c =
    let cfg = config_data c.args.config.now in let old = c.args.self.now in let m = g.B.Board.state c.args.board.now in
    subst
    (λ d. IsLeft cfg (record { old = old; new = c.set_power.new.self; before = m; after = m })
    (done cfg c.args.seat.core d (guests_of cfg old m)))
    (abort_parked cfg c.args.seat c.requires.seat (vm_data c.vm_at.result.now) c.vm_at.ensures c.args.esr c.args.far
    (sym (ap (option_map access_of) c.in-None.is) ∙ c.frame_access.ensures.value))
    (left_powers cfg old c.set_power.new.self m (slice_set old.powers c.args.seat.core (Parked c.args.esr c.args.far)) c.requires.tidy
    c.set_power.ensures.powers c.set_power.ensures.tables)
