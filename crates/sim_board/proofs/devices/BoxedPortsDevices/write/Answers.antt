use Rattle.std.proofs.Common.{rules, ◌≡◌, ◌<◌, ◌%◌, false, length, ap, ◌∙◌, arith}
use Rattle.std.specs.Prelude.{Some}
use Rattle.board.specs.Machine.{port_places}
use Rattle.board.specs.Ports.{is_port}
use Rattle.sim_board.specs.Devices.{place_of}
use Rattle.sim_board.proofs.Granule.{element_free}
use Rattle.sim_board.proofs.PortList.{line_written, port_written, room_here, room_lowered}
use Rattle.sim_board.proofs.devices.BoxedPortsDevices.write.Goals as goal

pub write_one-raised-requires-clause-spare : goal.write_one-raised-requires-clause-spare
write_one-raised-requires-clause-spare g c =
    let items = c.args.self.now.ports.items in
    let low : c.from.result < length c.args.self.now.ports.items
    = omega (arith, c.args.self.now.count, c.in-Some.ensures.number, c.from.ensures) in
    room_here _ items 1 c.from.result c.index_mut.result.now low c.index_mut.ensures.value c.requires.room

pub returns-in-Some-clause-accessed : goal.returns-in-Some-clause-accessed
returns-in-Some-clause-accessed g c =
    let items = c.args.self.now.ports.items in
    let low : c.in-Some.byte.port < length c.args.self.now.ports.items = omega (arith, c.args.self.now.count, c.in-Some.ensures.number) in
    let stands : Some (place_of c.in-Some.byte) ≡ port_places c.args.self.now.spots.items c.args.at = search rules in
    record {
      ports =
          port_written _ items (port_places c.args.self.now.spots.items c.args.at) c.in-Some.byte c.args.width c.from.result
          c.args.value (c.args.value % c.weight_after.result) c.index_mut.result.now c.write_one-raised.new.port stands
          c.from.ensures low c.index_mut.ensures.value (ap (λ p. c.args.value % p) c.weight_after.ensures.bytes)
          c.write_one-raised.ensures.state;
      lines =
          c.raise_port_if.ensures
          ∙ line_written _ items (port_places c.args.self.now.spots.items c.args.at) c.in-Some.byte c.args.width c.from.result
          c.args.value (c.args.value % c.weight_after.result) c.index_mut.result.now c.write_one-raised.result
          c.args.self.now.lines stands c.from.ensures low c.index_mut.ensures.value
          (ap (λ p. c.args.value % p) c.weight_after.ensures.bytes) c.write_one-raised.ensures.line;
      spots = search rules;
    }

pub returns-in-Some-clause-room : goal.returns-in-Some-clause-room
returns-in-Some-clause-room g c =
    let items = c.args.self.now.ports.items in
    let low : c.from.result < length c.args.self.now.ports.items
    = omega (arith, c.args.self.now.count, c.in-Some.ensures.number, c.from.ensures) in
    room_lowered _ items c.from.result c.index_mut.result.now c.write_one-raised.new.port low c.index_mut.ensures.value c.write_one-raised.ensures.spare

pub returns-in-None-clause-apart : goal.returns-in-None-clause-apart
returns-in-None-clause-apart g c is =
    let none : is_port (port_places c.args.self.now.spots.items) c.args.at ≡ false = search rules in
    element_free c.args.self.now.spots.items c.args.at c.args.width c.args.self.now.bases c.requires.width c.requires.aligned
    c.ranges.at.fits none
