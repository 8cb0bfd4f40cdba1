use Rattle.std.proofs.Common.{◌≡◌, ℕ, ◌*◌, ◌<◌, ◌≤◌, length, map, get_or}
use Rattle.sim_board.proofs.devices.BoxedPortsDevices.reserve.Given as goal

abbrev pub invariant-loop-i : goal.invariant-loop-i
invariant-loop-i g l = record {
  length : length l.self.ports.items ≡ length l.initial.self.ports.items;
  states :
      map (λ port. (goal.Port-dyn g (port.vtable, port.value)).state port.value) l.self.ports.items
      ≡ map (λ port. (goal.Port-dyn g (port.vtable, port.value)).state port.value) l.initial.self.ports.items;
  room :
      (k : ℕ) → k < l.i
      → 2 * l.events ≤ get_or (map (λ port. (goal.Port-dyn g (port.vtable, port.value)).spare port.value) l.self.ports.items) k 0;
  spots : l.self.spots.items ≡ l.initial.self.spots.items;
  lines : l.self.lines ≡ l.initial.self.lines;
}
