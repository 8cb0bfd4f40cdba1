use Rattle.std.proofs.Common.{sym, subst, ap, ◌∙◌}
use Rattle.std.specs.Prelude.{slice_get, slice_set}
use Rattle.std.proofs.lemmas.Option.{slice_get_within}
use Rattle.bao_config.specs.Config.{config_data}
use Rattle.hypercalls.specs.Laws.{IsLawful}
use Rattle.hypercalls.specs.declared.power.Power.TheVariants as power
use Rattle.vm_model.specs.Duty.{all_off, caller_of, carried, cores_of, powers_of, turned_on}
use Rattle.hypervisor.specs.Taken.{IsLeft, guests_of}
use Rattle.hypervisor.proofs.Calls.{start_lawful}
use Rattle.hypervisor.proofs.Left.{left_on, left_powers, left_same, seat_core}
use Rattle.hypervisor.proofs.Seats.{has_own, has_table, on_board}
use Rattle.hypervisor.proofs.hyp.Hyp.carry_out.Goals as goal

pub seat_at-requires-clause-vm : goal.seat_at-requires-clause-vm
seat_at-requires-clause-vm g c =
    slice_get_within (config_data c.args.config.now).vms c.args.seat.vm c.requires.seat.vm c.requires.seat.place

pub seat_at-requires-clause-own : goal.seat_at-requires-clause-own
seat_at-requires-clause-own g c vm is =
    let cfg = config_data c.args.config.now in
    let powers = powers_of (cores_of (slice_get cfg.vms c.args.seat.vm)) c.args.self.now.powers in
    start_lawful cfg c.args.seat.vm powers vm c.in-On.own c.in-On.start c.in-On.arg is
    (subst (IsLawful cfg c.args.seat.vm powers) c.in-On.is c.requires.lawful)

pub turn_on-requires-clause-core : goal.turn_on-requires-clause-core
turn_on-requires-clause-core g c =
    on_board (config_data c.args.config.now) c.args.self.now (g.B.Board.state c.args.board.now) c.requires.well_formed c.requires.tidy
    c.seat_at.result c.seat_at.ensures.seat

pub turn_on-requires-clause-vm : goal.turn_on-requires-clause-vm
turn_on-requires-clause-vm g c =
    has_table (config_data c.args.config.now) c.args.self.now (g.B.Board.state c.args.board.now) c.requires.well_formed c.requires.tidy
    c.seat_at.result c.seat_at.ensures.seat

pub turn_on-requires-clause-own : goal.turn_on-requires-clause-own
turn_on-requires-clause-own g c =
    has_own (config_data c.args.config.now) c.args.self.now (g.B.Board.state c.args.board.now) c.requires.well_formed c.requires.tidy
    c.seat_at.result c.seat_at.ensures.seat

pub vm_at-requires : goal.vm_at-requires
vm_at-requires g c =
    slice_get_within (config_data c.args.config.now).vms c.args.seat.vm c.requires.seat.vm c.requires.seat.place

pub ring-requires-clause-memory : goal.ring-requires-clause-memory
ring-requires-clause-memory g c =
    let cfg = config_data c.args.config.now in
    let lawful =
    subst (IsLawful cfg c.args.seat.vm (powers_of (cores_of (slice_get cfg.vms c.args.seat.vm)) c.args.self.now.powers)) c.in-Ring.is
    c.requires.lawful in
    lawful.memory

pub returns-in-Answer : goal.returns-in-Answer
returns-in-Answer g c =
    let cfg = config_data c.args.config.now in let old = c.args.self.now in let m = g.B.Board.state c.args.board.now in
    let v = c.args.seat.vm in
    subst
    (λ o. IsLeft cfg (record { old = old; new = old; before = m; after = m })
    (carried cfg (caller_of cfg v c.args.seat.core) o (guests_of cfg old m))) (sym c.in-Answer.is)
    (left_same cfg old m c.requires.tidy)

pub returns-in-Ring : goal.returns-in-Ring
returns-in-Ring g c =
    let cfg = config_data c.args.config.now in let old = c.args.self.now in let m = g.B.Board.state c.args.board.now in
    let v = c.args.seat.vm in
    subst
    (λ o. IsLeft cfg (record { old = old; new = c.ring.new.self; before = m; after = g.B.Board.state c.ring.new.board })
    (carried cfg (caller_of cfg v c.args.seat.core) o (guests_of cfg old m))) (sym c.in-Ring.is)
    c.ring.ensures

pub returns-in-Off : goal.returns-in-Off
returns-in-Off g c =
    let cfg = config_data c.args.config.now in let old = c.args.self.now in let m = g.B.Board.state c.args.board.now in
    let v = c.args.seat.vm in
    subst
    (λ o. IsLeft cfg (record { old = old; new = c.set_power.new.self; before = m; after = m })
    (carried cfg (caller_of cfg v c.args.seat.core) o (guests_of cfg old m))) (sym c.in-Off.is)
    (left_powers cfg old c.set_power.new.self m (slice_set old.powers c.args.seat.core power.Off) c.requires.tidy c.set_power.ensures.powers
    c.set_power.ensures.tables)

pub returns-in-On : goal.returns-in-On
returns-in-On g c =
    let cfg = config_data c.args.config.now in let old = c.args.self.now in let m = g.B.Board.state c.args.board.now in
    let v = c.args.seat.vm in
    subst
    (λ o. IsLeft cfg (record { old = old; new = c.turn_on.new.self; before = m; after = g.B.Board.state c.turn_on.new.board })
    (carried cfg (caller_of cfg v c.args.seat.core) o (guests_of cfg old m))) (sym c.in-On.is)
    (subst
    (λ n. IsLeft cfg (record { old = old; new = c.turn_on.new.self; before = m; after = g.B.Board.state c.turn_on.new.board })
    (turned_on cfg n c.in-On.start c.in-On.arg (guests_of cfg old m)))
    (sym (seat_core cfg c.seat_at.result c.seat_at.ensures.seat v c.in-On.own c.seat_at.ensures.vm c.seat_at.ensures.own))
    (left_on cfg c.requires.well_formed c.args.config.now.fits old c.turn_on.new.self m (g.B.Board.state c.turn_on.new.board) c.requires.tidy
    c.seat_at.result c.seat_at.ensures.seat c.in-On.start c.in-On.arg c.turn_on.ensures.state c.turn_on.ensures.powers
    c.turn_on.ensures.tables))

pub returns-in-SystemOff : goal.returns-in-SystemOff
returns-in-SystemOff g c =
    let cfg = config_data c.args.config.now in let old = c.args.self.now in let m = g.B.Board.state c.args.board.now in
    let v = c.args.seat.vm in
    subst
    (λ o. IsLeft cfg (record { old = old; new = c.turn_all_off.new.self; before = m; after = m })
    (carried cfg (caller_of cfg v c.args.seat.core) o (guests_of cfg old m))) (sym c.in-SystemOff.is)
    (left_powers cfg old c.turn_all_off.new.self m (all_off (cores_of (slice_get cfg.vms v)) old.powers) c.requires.tidy
    (c.turn_all_off.ensures.powers ∙ ap (λ o. all_off (cores_of o) old.powers) (sym c.vm_at.ensures)) c.turn_all_off.ensures.tables)
