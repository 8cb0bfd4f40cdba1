use Rattle.std.proofs.Common.{List, sym, subst}
use Rattle.std.specs.Prelude.{IsTrue, ◌==◌}
use Rattle.std.specs.List.{list_any}
use Rattle.bao_types.specs.declared.shape.PortSpot.{PortSpot}
use Rattle.sim_board.proofs.Standard.{is_listed}
use Rattle.sim_board.proofs.machine.SimBoardBoard.port_input.Goals as goal

pub input-requires-clause-port : goal.input-requires-clause-port
input-requires-clause-port g c =
    let self = c.args.self.now in
    is_listed self.devices.spots.items c.args.port self.devices.numbers
    (subst (λ (spots : List PortSpot). IsTrue (list_any (λ spot. spot.id == c.args.port) spots)) (sym self.sound.spots) c.requires.port)
