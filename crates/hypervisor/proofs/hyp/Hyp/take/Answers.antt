use Rattle.std.proofs.Common.{subst}
use Rattle.bao_config.specs.Config.{config_data}
use Rattle.hypervisor.specs.Event.{IsOnBoard}
use Rattle.hypervisor.proofs.Models.{placed_on_board}
use Rattle.hypervisor.proofs.hyp.Hyp.take.Goals as goal

pub port_input-requires-clause-port : goal.port_input-requires-clause-port
port_input-requires-clause-port g c =
    let m = g.B.Board.state c.args.board.now in
    subst (IsOnBoard m.shape) c.in-Input.is
    (placed_on_board (config_data c.args.config.now) m.shape c.args.event.now c.requires.well_formed c.requires.tidy.shape c.requires.placed)
