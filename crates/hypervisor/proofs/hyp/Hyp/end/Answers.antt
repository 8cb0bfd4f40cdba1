use Rattle.std.specs.Prelude.{false}
use Rattle.bao_config.specs.Config.{config_data}
use Rattle.hypervisor.proofs.Seats.{has_own, has_table, on_board}
use Rattle.hypervisor.proofs.Moves.{left_by_change}
use Rattle.hypervisor.proofs.hyp.Hyp.end.Goals as goal

pub drop_active-requires-clause-core : goal.drop_active-requires-clause-core
drop_active-requires-clause-core g c =
    on_board (config_data c.args.config.now) c.args.self.now (g.B.Board.state c.args.board.now) c.requires.well_formed c.requires.tidy
    c.holder-holder.result c.holder-holder.ensures.seat

pub drop_active-requires-clause-vm : goal.drop_active-requires-clause-vm
drop_active-requires-clause-vm g c =
    has_table (config_data c.args.config.now) c.args.self.now (g.B.Board.state c.args.board.now) c.requires.well_formed c.requires.tidy
    c.holder-holder.result c.holder-holder.ensures.seat

pub drop_active-requires-clause-own : goal.drop_active-requires-clause-own
drop_active-requires-clause-own g c =
    has_own (config_data c.args.config.now) c.args.self.now (g.B.Board.state c.args.board.now) c.requires.well_formed c.requires.tidy
    c.holder-holder.result c.holder-holder.ensures.seat

pub returns : goal.returns
returns g c =
    left_by_change (config_data c.args.config.now) c.requires.well_formed c.args.config.now.fits c.args.self.now c.drop_active.new.self
    (g.B.Board.state c.args.board.now) (g.B.Board.state c.drop_active.new.board) c.requires.tidy c.holder-holder.result c.holder-holder.ensures.seat
    c.args.seat.vm c.args.seat.own c.args.id (λ state. record state { active = false }) c.holder-holder.ensures.vm c.holder-holder.ensures.own
    c.requires.id c.drop_active.ensures.state c.drop_active.ensures.powers c.drop_active.ensures.tables
