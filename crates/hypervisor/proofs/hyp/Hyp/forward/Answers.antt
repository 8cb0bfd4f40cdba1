use Rattle.std.proofs.Common.{sym, ◌∙◌}
use Rattle.bao_config.specs.Config.{config_data}
use Rattle.hypervisor.proofs.Forwarded.{begins, ends, goes_down, goes_on, tidy_acked}
use Rattle.hypervisor.proofs.Seats.{on_board}
use Rattle.hypervisor.proofs.hyp.Hyp.forward.Goals as goal

pub loop-intid-init : goal.loop-intid-init
loop-intid-init g c =
    begins (config_data c.args.config.now) c.args.seat.core c.args.self.now (g.B.Board.state c.args.board.now) c.requires.tidy

pub ack-requires-clause-core : goal.ack-requires-clause-core
ack-requires-clause-core g c =
    on_board (config_data c.args.config.now) c.loop-intid.self (g.B.Board.state c.loop-intid.board) c.requires.well_formed
    c.loop-intid.invariant.tidy c.args.seat c.requires.seat.is

pub forward_line-requires-clause-tidy : goal.forward_line-requires-clause-tidy
forward_line-requires-clause-tidy g c =
    tidy_acked (config_data c.args.config.now) c.requires.well_formed c.args.config.now.fits c.args.seat c.requires.seat c.args.self.now
    c.loop-intid.self (g.B.Board.state c.args.board.now) (g.B.Board.state c.loop-intid.board) c.loop-intid.invariant
    (g.B.Board.state c.ack.new.self) c.ack.ensures.state

pub loop-intid-preserved : goal.loop-intid-preserved
loop-intid-preserved g c =
    goes_on (config_data c.args.config.now) c.requires.well_formed c.args.config.now.fits c.args.seat c.requires.seat c.args.self.now
    c.loop-intid.self (g.B.Board.state c.args.board.now) (g.B.Board.state c.loop-intid.board) c.loop-intid.invariant
    c.in-Some.intid (sym c.ack.ensures.value ∙ c.in-Some.is) (g.B.Board.state c.ack.new.self) c.ack.ensures.state
    c.forward_line.new.self (g.B.Board.state c.forward_line.new.board) c.forward_line.ensures

pub loop-intid-smaller : goal.loop-intid-smaller
loop-intid-smaller g c =
    goes_down (config_data c.args.config.now) c.requires.well_formed c.args.config.now.fits c.args.seat c.requires.seat c.args.self.now
    c.loop-intid.self (g.B.Board.state c.args.board.now) (g.B.Board.state c.loop-intid.board) c.loop-intid.invariant
    c.in-Some.intid (sym c.ack.ensures.value ∙ c.in-Some.is) (g.B.Board.state c.ack.new.self) c.ack.ensures.state
    c.forward_line.new.self (g.B.Board.state c.forward_line.new.board) c.forward_line.ensures

pub returns : goal.returns
returns g c =
    ends (config_data c.args.config.now) c.requires.well_formed c.args.config.now.fits c.args.seat c.requires.seat c.args.self.now
    c.loop-intid.self (g.B.Board.state c.args.board.now) (g.B.Board.state c.loop-intid.board) c.loop-intid.invariant
    (sym c.ack.ensures.value ∙ c.in_default.is) (g.B.Board.state c.ack.new.self) c.ack.ensures.state
