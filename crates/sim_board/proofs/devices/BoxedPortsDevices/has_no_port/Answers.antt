use Rattle.std.proofs.Common.{◌∙◌}
use Rattle.board.specs.Machine.{port_places}
use Rattle.board.specs.Ports.{is_port}
use Rattle.sim_board.proofs.Granule.{port_if_one}
use Rattle.sim_board.proofs.Judged.{all_free}
use Rattle.sim_board.proofs.devices.BoxedPortsDevices.has_no_port.Goals as goal

pub returns-then-has_all : goal.returns-then-has_all
returns-then-has_all g c =
    let devices = c.args.self.now in
    c.if-has_all.true
    ∙ all_free (is_port (port_places devices.spots.items)) devices.gap.first devices.gap.last
    (λ byte from to. port_if_one devices.spots.items byte ∙ devices.free byte from to) c.args.at c.args.count
    c.if-has_all.ensures.first c.if-has_all.ensures.last c.if-has_all.ensures.fits
