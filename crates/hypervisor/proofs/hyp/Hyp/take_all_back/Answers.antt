use Rattle.std.proofs.Common.{◌≡◌, ◌≤◌, length, ap, arith, rules}
use Rattle.std.specs.Prelude.{slice_get}
use Rattle.bao_config.specs.Config.{config_data}
use Rattle.bao_config.specs.Data.{vm_data}
use Rattle.vm_model.specs.Duty.{cores_of}
use Rattle.hypervisor.proofs.Answered.{back_all, back_next, back_tidy}
use Rattle.hypervisor.proofs.Seats.{has_own, on_board}
use Rattle.hypervisor.proofs.hyp.Hyp.take_all_back.Goals as goal

pub take_back-requires-clause-core : goal.take_back-requires-clause-core
take_back-requires-clause-core g c =
    let cfg = config_data c.args.config.now in let mid = c.loop-own.self in let between = g.B.Board.state c.loop-own.board in
    on_board cfg mid between c.requires.well_formed
    (back_tidy cfg c.args.vm c.args.self.now (g.B.Board.state c.args.board.now) c.requires.tidy mid between c.loop-own.own c.loop-own.invariant)
    c.seat_at.result c.seat_at.ensures.seat

pub take_back-requires-clause-own : goal.take_back-requires-clause-own
take_back-requires-clause-own g c =
    let cfg = config_data c.args.config.now in let mid = c.loop-own.self in let between = g.B.Board.state c.loop-own.board in
    has_own cfg mid between c.requires.well_formed
    (back_tidy cfg c.args.vm c.args.self.now (g.B.Board.state c.args.board.now) c.requires.tidy mid between c.loop-own.own c.loop-own.invariant)
    c.seat_at.result c.seat_at.ensures.seat

pub loop-own-preserved : goal.loop-own-preserved
loop-own-preserved g c =
    back_next (config_data c.args.config.now) c.args.vm c.args.self.now (g.B.Board.state c.args.board.now) c.requires.tidy c.loop-own.self
    (g.B.Board.state c.loop-own.board) c.loop-own.own c.loop-own.invariant c.requires.well_formed c.args.config.now.fits c.take_back.new.self
    (g.B.Board.state c.take_back.new.board) c.seat_at.result c.seat_at.ensures.seat c.seat_at.ensures.vm c.seat_at.ensures.own
    c.take_back.ensures.state c.take_back.ensures.powers c.take_back.ensures.tables

pub returns-clause-free : goal.returns-clause-free
returns-clause-free g c =
    let cfg = config_data c.args.config.now in
    let count : length (cores_of (slice_get cfg.vms c.args.vm)) ≡ length (vm_data c.vm_at.result.now).cores =
    ap (λ o. length (cores_of o)) c.vm_at.ensures in
    let all : length (vm_data c.vm_at.result.now).cores ≤ c.loop-own.own = search rules in
    back_all cfg c.args.vm c.args.self.now (g.B.Board.state c.args.board.now) c.requires.tidy c.loop-own.self
    (g.B.Board.state c.loop-own.board) c.loop-own.own c.loop-own.invariant (omega (arith, count, all))
