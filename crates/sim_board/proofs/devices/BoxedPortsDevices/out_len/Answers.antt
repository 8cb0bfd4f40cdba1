use Rattle.std.proofs.Common.{◌<◌, length, ap, sym, ◌∙◌, arith}
use Rattle.ports.specs.PortState.{output_of}
use Rattle.sim_board.proofs.PortList.{state_here}
use Rattle.sim_board.proofs.devices.BoxedPortsDevices.out_len.Goals as goal

pub returns : goal.returns
returns g c =
    let items = c.args.self.now.ports.items in
    let low : c.args.port < length c.args.self.now.ports.items = omega (arith, c.args.self.now.count, c.requires) in
    c.out_len_of.ensures
    ∙ sym (ap (λ s. length (output_of s)) (state_here _ items c.args.port c.from.result c.index.result.now c.from.ensures low c.index.ensures))
