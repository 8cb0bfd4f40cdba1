use Rattle.std.proofs.Common.{sym, subst}
use Rattle.std.specs.Prelude.{◌==◌, slice_get}
use Rattle.std.proofs.lemmas.Option.{slice_get_within}
use Rattle.bao_config.specs.Config.{config_data}
use Rattle.board.specs.Machine.{core_at}
use Rattle.hypercalls.specs.Laws.{IsLawful}
use Rattle.vm_model.specs.Duty.{answered, cores_of, immediate, powers_of}
use Rattle.vm_model.proofs.Duties.{call_lawful}
use Rattle.hypervisor.specs.Taken.{guests_of}
use Rattle.hypervisor.specs.Tidy.{Tidy}
use Rattle.hypervisor.proofs.Left.{tidy_core}
use Rattle.hypervisor.proofs.Seats.{on_board}
use Rattle.hypervisor.proofs.Settled.{left_call}
use Rattle.hypervisor.proofs.hyp.Hyp.call.Goals as goal

pub outcome-outcome-requires-clause-vm : goal.outcome-outcome-requires-clause-vm
outcome-outcome-requires-clause-vm g c =
    slice_get_within (config_data c.args.config.now).vms c.args.seat.vm c.requires.seat.is.vm c.requires.seat.is.place

pub outcome-outcome-requires-clause-core : goal.outcome-outcome-requires-clause-core
outcome-outcome-requires-clause-core g c =
    on_board (config_data c.args.config.now) c.args.self.now (g.B.Board.state c.args.board.now) c.requires.well_formed c.requires.tidy c.args.seat
    c.requires.seat.is

pub answer-requires-2-clause-core : goal.answer-requires-2-clause-core
answer-requires-2-clause-core g c =
    on_board (config_data c.args.config.now) c.args.self.now (g.B.Board.state c.args.board.now) c.requires.well_formed c.requires.tidy c.args.seat
    c.requires.seat.is

pub carry_out-requires-clause-tidy : goal.carry_out-requires-clause-tidy
carry_out-requires-clause-tidy g c =
    let cfg = config_data c.args.config.now in let m = g.B.Board.state c.args.board.now in let core = c.args.seat.core in
    subst (Tidy cfg c.args.self.now) (sym c.answer-2.ensures)
    (tidy_core cfg c.args.self.now m core (answered c.is_smc.result c.answer.result (core_at m.cores core)) c.requires.tidy)

pub carry_out-requires-clause-lawful : goal.carry_out-requires-clause-lawful
carry_out-requires-clause-lawful g c =
    let cfg = config_data c.args.config.now in let hyp = c.args.self.now in let v = c.args.seat.vm in
    subst (IsLawful cfg v (powers_of (cores_of (slice_get cfg.vms v)) hyp.powers)) (sym c.outcome-outcome.ensures)
    (call_lawful cfg v c.args.seat.core c.args.esr (guests_of cfg hyp (g.B.Board.state c.args.board.now)) (immediate c.args.esr == 0))

pub returns : goal.returns
returns g c =
    let cfg = config_data c.args.config.now in
    left_call cfg c.args.self.now c.carry_out.new.self (g.B.Board.state c.args.board.now) (g.B.Board.state c.answer-2.new.board)
    (g.B.Board.state c.carry_out.new.board) c.args.seat.vm c.args.seat.core c.args.esr c.is_smc.result c.answer.result
    c.outcome-outcome.result c.answer-2.ensures c.is_smc.ensures c.answer.ensures c.outcome-outcome.ensures c.carry_out.ensures
