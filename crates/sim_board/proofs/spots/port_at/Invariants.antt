use Rattle.std.proofs.Common.{◌≡◌, drop, find}
use Rattle.bao_types.specs.declared.shape.PortSpot.{PortSpot}
use Rattle.bao_types.specs.ByteRange.{is_within}
use Rattle.bao_types.specs.Shape.{port_range}
use Rattle.sim_board.proofs.spots.port_at.Given as goal

abbrev pub invariant-loop-spot : goal.invariant-loop-spot
invariant-loop-spot l =
    find (λ (spot : PortSpot). is_within (port_range spot.base) l.at) (drop l.spot-index l.spots)
    ≡ find (λ (spot : PortSpot). is_within (port_range spot.base) l.at) l.spots
