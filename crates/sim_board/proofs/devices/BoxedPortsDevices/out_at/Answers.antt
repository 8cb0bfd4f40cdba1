use Rattle.std.proofs.Common.{◌<◌, length, slice_index, ap, sym, subst, ◌∙◌, arith}
use Rattle.ports.specs.PortState.{output_of}
use Rattle.sim_board.proofs.PortList.{state_here}
use Rattle.sim_board.proofs.devices.BoxedPortsDevices.out_at.Goals as goal

pub out_at_of-requires : goal.out_at_of-requires
out_at_of-requires g c =
    let items = c.args.self.now.ports.items in
    let low : c.args.port < length c.args.self.now.ports.items = omega (arith, c.args.self.now.count, c.requires.port) in
    subst (λ s. c.args.i < length (output_of s))
    (state_here _ items c.args.port c.from.result c.index.result.now c.from.ensures low c.index.ensures) c.requires.place

pub returns : goal.returns
returns g c =
    let items = c.args.self.now.ports.items in
    let low : c.args.port < length c.args.self.now.ports.items = omega (arith, c.args.self.now.count, c.requires.port) in
    c.out_at_of.ensures
    ∙ sym (ap (λ s. slice_index (output_of s) c.args.i) (state_here _ items c.args.port c.from.result c.index.result.now c.from.ensures low c.index.ensures))
