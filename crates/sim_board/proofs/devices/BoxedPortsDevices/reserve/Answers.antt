use Rattle.std.proofs.Common.{rules, ◌*◌, ◌<◌, ◌≤◌, length, refl, ap, sym, subst, ◌∙◌, arith}
use Rattle.std.proofs.lemmas.List.{length-set}
use Rattle.bao_types.specs.Shape.{event_limit}
use Rattle.ports.specs.PortState.{byte_count}
use Rattle.sim_board.specs.Devices.{states_of}
use Rattle.sim_board.proofs.PortList.{room_of_all, room_of_more, state_here, states_left_alone}
use Rattle.sim_board.proofs.devices.BoxedPortsDevices.reserve.Goals as goal

pub reserve_one-requires-clause-bytes : goal.reserve_one-requires-clause-bytes
reserve_one-requires-clause-bytes g c =
    let items = c.loop-i.self.ports.items in let i = c.loop-i.i in
    let low : c.loop-i.i < length c.loop-i.self.ports.items
    = omega (arith, c.loop-i.invariant.length, c.loop-i-test.true, c.len-i-end.ensures) in
    subst (λ s. byte_count s ≤ 2 * event_limit)
    (sym (ap (λ states. states_of states i) c.loop-i.invariant.states)
    ∙ state_here _ items i i c.index_mut.result.now refl low c.index_mut.ensures.value)
    (c.requires.bytes i)

pub loop-i-preserved : goal.loop-i-preserved
loop-i-preserved g c =
    let items = c.loop-i.self.ports.items in let i = c.loop-i.i in
    let low : c.loop-i.i < length c.loop-i.self.ports.items
    = omega (arith, c.loop-i.invariant.length, c.loop-i-test.true, c.len-i-end.ensures) in
    let enough : 2 * c.args.events ≤ (goal.Port-dyn g (c.reserve_one.new.port.vtable, c.reserve_one.new.port.value)).spare c.reserve_one.new.port.value
    = search rules in
    record {
      length = length-set items i c.reserve_one.new.port ∙ c.loop-i.invariant.length;
      states =
          states_left_alone _ items i c.index_mut.result.now c.reserve_one.new.port c.index_mut.ensures.value c.reserve_one.ensures.state
          ∙ c.loop-i.invariant.states;
      room = room_of_more _ items i (2 * c.args.events) c.reserve_one.new.port low enough c.loop-i.invariant.room;
      spots = c.loop-i.invariant.spots;
      lines = c.loop-i.invariant.lines;
    }

pub returns-in_err-reserve_one-clause-states : goal.returns-in_err-reserve_one-clause-states
returns-in_err-reserve_one-clause-states g c =
    ap states_of
    (states_left_alone _ c.loop-i.self.ports.items c.loop-i.i c.index_mut.result.now c.reserve_one.new.port c.index_mut.ensures.value
    c.reserve_one.ensures.state
    ∙ c.loop-i.invariant.states)

pub returns-clause-room : goal.returns-clause-room
returns-clause-room g c =
    let small : 2 * c.args.events ≤ 2 * event_limit = omega (arith, c.requires.events) in
    room_of_all _ c.loop-i.self.ports.items (2 * c.args.events) small
    (λ k low. c.loop-i.invariant.room k (omega (arith, low, c.loop-i.invariant.length, c.loop-i-test.false, c.len-i-end.ensures)))
