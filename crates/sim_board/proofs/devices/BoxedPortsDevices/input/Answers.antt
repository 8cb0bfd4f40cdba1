use Rattle.std.proofs.Common.{◌<◌, length, ◌∙◌, arith}
use Rattle.ports.specs.Registers.{after_input}
use Rattle.sim_board.proofs.PortList.{line_given, port_after, room_here, room_lowered}
use Rattle.sim_board.proofs.devices.BoxedPortsDevices.input.Goals as goal

pub input_one-raised-requires : goal.input_one-raised-requires
input_one-raised-requires g c =
    let items = c.args.self.now.ports.items in
    let low : c.from.result < length c.args.self.now.ports.items = omega (arith, c.args.self.now.count, c.requires.port, c.from.ensures) in
    room_here _ items 1 c.from.result c.index_mut.result.now low c.index_mut.ensures.value c.requires.room

pub returns-clause-states : goal.returns-clause-states
returns-clause-states g c =
    let items = c.args.self.now.ports.items in
    let low : c.args.port < length c.args.self.now.ports.items = omega (arith, c.args.self.now.count, c.requires.port) in
    port_after _ items c.args.port c.from.result c.index_mut.result.now c.input_one-raised.new.port (λ s. after_input s c.args.byte)
    c.from.ensures low c.index_mut.ensures.value c.input_one-raised.ensures.state

pub returns-clause-room : goal.returns-clause-room
returns-clause-room g c =
    let items = c.args.self.now.ports.items in
    let low : c.from.result < length c.args.self.now.ports.items = omega (arith, c.args.self.now.count, c.requires.port, c.from.ensures) in
    room_lowered _ items c.from.result c.index_mut.result.now c.input_one-raised.new.port low c.index_mut.ensures.value c.input_one-raised.ensures.spare

pub returns-clause-lines : goal.returns-clause-lines
returns-clause-lines g c =
    let items = c.args.self.now.ports.items in
    let low : c.args.port < length c.args.self.now.ports.items = omega (arith, c.args.self.now.count, c.requires.port) in
    c.raise_port_if.ensures
    ∙ line_given _ items c.args.port c.from.result c.index_mut.result.now c.input_one-raised.result c.args.self.now.lines
    c.from.ensures low c.index_mut.ensures.value c.input_one-raised.ensures.line
