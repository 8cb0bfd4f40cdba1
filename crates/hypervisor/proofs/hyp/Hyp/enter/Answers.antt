use Rattle.bao_config.specs.Config.{config_data}
use Rattle.hypervisor.proofs.Entered.{enters_at_once, enters_later, other_exit, refills, tidy_between}
use Rattle.hypervisor.proofs.Seats.{has_own, has_table, on_board}
use Rattle.hypervisor.proofs.hyp.Hyp.enter.Goals as goal

pub refill-requires-clause-core : goal.refill-requires-clause-core
refill-requires-clause-core g c =
    on_board (config_data c.args.config.now) c.args.self.now (g.B.Board.state c.args.board.now) c.requires.well_formed c.requires.tidy
    c.args.seat c.requires.seat.is

pub refill-requires-clause-vm : goal.refill-requires-clause-vm
refill-requires-clause-vm g c =
    has_table (config_data c.args.config.now) c.args.self.now (g.B.Board.state c.args.board.now) c.requires.well_formed c.requires.tidy
    c.args.seat c.requires.seat.is

pub refill-requires-clause-own : goal.refill-requires-clause-own
refill-requires-clause-own g c =
    has_own (config_data c.args.config.now) c.args.self.now (g.B.Board.state c.args.board.now) c.requires.well_formed c.requires.tidy
    c.args.seat c.requires.seat.is

pub step-requires-clause-core : goal.step-requires-clause-core
step-requires-clause-core g c =
    let cfg = config_data c.args.config.now in let before = g.B.Board.state c.args.board.now in
    let filled = g.B.Board.state c.refill.new.board in
    let refill =
    refills cfg c.requires.well_formed c.args.config.now.fits c.args.seat c.requires.seat c.args.self.now c.refill.new.self before filled
    c.requires.tidy c.refill.ensures.tables c.refill.ensures.powers c.refill.ensures.state in
    on_board cfg c.refill.new.self filled c.requires.well_formed refill.tidy c.args.seat c.requires.seat.is

pub returns-in-Ran : goal.returns-in-Ran
returns-in-Ran g c =
    let cfg = config_data c.args.config.now in let before = g.B.Board.state c.args.board.now in
    let filled = g.B.Board.state c.refill.new.board in
    let refill =
    refills cfg c.requires.well_formed c.args.config.now.fits c.args.seat c.requires.seat c.args.self.now c.refill.new.self before filled
    c.requires.tidy c.refill.ensures.tables c.refill.ensures.powers c.refill.ensures.state in
    enters_at_once cfg c.requires.well_formed c.args.config.now.fits c.args.seat c.requires.seat c.args.self.now c.refill.new.self before filled
    c.args.count c.requires.tidy refill (g.B.Board.state c.step.new.self) c.step.result c.step.ensures.state c.step.ensures.exit
    (other_exit c.step.result c.in-Ran.is)

pub forward-requires-clause-tidy : goal.forward-requires-clause-tidy
forward-requires-clause-tidy g c =
    let cfg = config_data c.args.config.now in let before = g.B.Board.state c.args.board.now in
    let filled = g.B.Board.state c.refill.new.board in
    let refill =
    refills cfg c.requires.well_formed c.args.config.now.fits c.args.seat c.requires.seat c.args.self.now c.refill.new.self before filled
    c.requires.tidy c.refill.ensures.tables c.refill.ensures.powers c.refill.ensures.state in
    tidy_between cfg c.requires.well_formed c.args.config.now.fits c.args.seat c.requires.seat c.args.self.now c.refill.new.self before filled
    c.args.count c.requires.tidy refill (g.B.Board.state c.step.new.self) c.step.result c.step.ensures.state c.step.ensures.exit c.in-Irq.is

pub refill-requires-2-clause-core : goal.refill-requires-2-clause-core
refill-requires-2-clause-core g c =
    on_board (config_data c.args.config.now) c.forward.new.self (g.B.Board.state c.forward.new.board) c.requires.well_formed
    c.forward.ensures.tidy c.args.seat c.requires.seat.is

pub refill-requires-2-clause-vm : goal.refill-requires-2-clause-vm
refill-requires-2-clause-vm g c =
    has_table (config_data c.args.config.now) c.forward.new.self (g.B.Board.state c.forward.new.board) c.requires.well_formed
    c.forward.ensures.tidy c.args.seat c.requires.seat.is

pub refill-requires-2-clause-own : goal.refill-requires-2-clause-own
refill-requires-2-clause-own g c =
    has_own (config_data c.args.config.now) c.forward.new.self (g.B.Board.state c.forward.new.board) c.requires.well_formed
    c.forward.ensures.tidy c.args.seat c.requires.seat.is

pub step-requires-2-clause-core : goal.step-requires-2-clause-core
step-requires-2-clause-core g c =
    let cfg = config_data c.args.config.now in let handed = g.B.Board.state c.forward.new.board in
    let again = g.B.Board.state c.refill-2.new.board in
    let refill =
    refills cfg c.requires.well_formed c.args.config.now.fits c.args.seat c.requires.seat c.forward.new.self c.refill-2.new.self handed again
    c.forward.ensures.tidy c.refill-2.ensures.tables c.refill-2.ensures.powers c.refill-2.ensures.state in
    on_board cfg c.refill-2.new.self again c.requires.well_formed refill.tidy c.args.seat c.requires.seat.is

pub returns : goal.returns
returns g c =
    let cfg = config_data c.args.config.now in let before = g.B.Board.state c.args.board.now in
    let filled = g.B.Board.state c.refill.new.board in let handed = g.B.Board.state c.forward.new.board in
    let again = g.B.Board.state c.refill-2.new.board in
    let refill =
    refills cfg c.requires.well_formed c.args.config.now.fits c.args.seat c.requires.seat c.args.self.now c.refill.new.self before filled
    c.requires.tidy c.refill.ensures.tables c.refill.ensures.powers c.refill.ensures.state in
    let refill_again =
    refills cfg c.requires.well_formed c.args.config.now.fits c.args.seat c.requires.seat c.forward.new.self c.refill-2.new.self handed again
    c.forward.ensures.tidy c.refill-2.ensures.tables c.refill-2.ensures.powers c.refill-2.ensures.state in
    enters_later cfg c.requires.well_formed c.args.config.now.fits c.args.seat c.requires.seat c.args.self.now c.refill.new.self before filled
    c.args.count c.requires.tidy refill (g.B.Board.state c.step.new.self) c.step.result c.step.ensures.state c.step.ensures.exit c.in-Irq.is
    c.forward.new.self c.refill-2.new.self handed again c.forward.ensures refill_again (g.B.Board.state c.step-2.new.self) c.step-2.result
    c.step-2.ensures.state c.step-2.ensures.exit
