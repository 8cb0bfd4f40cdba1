use Rattle.std.proofs.Common.{◌≡◌, ◌≤◌, false, take}
use Rattle.bao_types.specs.Shape.{is_port_of}
use Rattle.sim_board.specs.Gap.{IsGap}
use Rattle.sim_board.proofs.gap.Gap.around.Given as goal

abbrev pub invariant-loop-port : goal.invariant-loop-port
invariant-loop-port l = record {
  free : IsGap (take l.port-index l.ports) l.gap;
  around : is_port_of (take l.port-index l.ports) l.at ≡ false → (l.gap.first ≤ l.at) × (l.at ≤ l.gap.last);
}
