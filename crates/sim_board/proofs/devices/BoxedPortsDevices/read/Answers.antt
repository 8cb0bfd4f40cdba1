use Rattle.std.proofs.Common.{rules, ◌≡◌, ◌<◌, length, arith}
use Rattle.std.specs.Prelude.{Some}
use Rattle.board.specs.Machine.{port_places}
use Rattle.sim_board.specs.Devices.{place_of}
use Rattle.sim_board.proofs.PortList.{port_read, room_left_alone}
use Rattle.sim_board.proofs.devices.BoxedPortsDevices.read.Goals as goal

pub returns-in-Some-clause-accessed : goal.returns-in-Some-clause-accessed
returns-in-Some-clause-accessed g c =
    let items = c.args.self.now.ports.items in
    let low : c.in-Some.byte.port < length c.args.self.now.ports.items = omega (arith, c.args.self.now.count, c.in-Some.ensures.number) in
    let stands : Some (place_of c.in-Some.byte) ≡ port_places c.args.self.now.spots.items c.args.at = search rules in
    record {
      ports =
          port_read _ items (port_places c.args.self.now.spots.items c.args.at) c.in-Some.byte c.args.width c.from.result
          c.index_mut.result.now c.read_one.new.port stands c.from.ensures low c.index_mut.ensures.value c.read_one.ensures.state;
      lines = search rules;
      spots = search rules;
    }

pub returns-in-Some-clause-room : goal.returns-in-Some-clause-room
returns-in-Some-clause-room g c =
    let items = c.args.self.now.ports.items in
    let low : c.from.result < length c.args.self.now.ports.items
    = omega (arith, c.args.self.now.count, c.in-Some.ensures.number, c.from.ensures) in
    room_left_alone _ items c.from.result c.index_mut.result.now c.read_one.new.port low c.index_mut.ensures.value c.read_one.ensures.spare
