-- Addresses that are no port's.
use Rattle.std.specs.Prelude.{◌≡◌, ℕ, ◌≤◌, false, List}
use Rattle.bao_types.specs.declared.shape.PortSpot.{PortSpot}
use Rattle.bao_types.specs.ByteRange.{is_within}
use Rattle.bao_types.specs.Shape.{is_port_of, port_range}
use Rattle.sim_board.specs.declared.gap.Gap.{Gap}

-- none of the gap's bytes is a port's
abbrev pub IsGap : List PortSpot → Gap → Type 0
IsGap ports gap = (at : ℕ) → gap.first ≤ at → at ≤ gap.last → is_port_of ports at ≡ false

-- none of its bytes is of the port at this address
abbrev pub IsBeside : ℕ → Gap → Type 0
IsBeside port gap = (at : ℕ) → gap.first ≤ at → at ≤ gap.last → is_within (port_range port) at ≡ false
