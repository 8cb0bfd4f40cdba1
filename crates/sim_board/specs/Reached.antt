-- What a core of the board reaches, by its EL1 regions and its EL2 entries.
use Rattle.std.specs.Prelude.{ℕ, Bool, IsTrue, List}
use Rattle.bao_types.specs.declared.access.Access.TheVariants.{Write}
use Rattle.bao_types.specs.declared.region.Region.{Region}
use Rattle.bao_types.specs.declared.shape.PortSpot.{PortSpot}
use Rattle.a64_state.specs.Core.{CoreData}
use Rattle.board.specs.Stage.{by_entries, by_regions, is_allowed}
use Rattle.board.specs.Judge.{Reach, reach_of}
use Rattle.sim_board.specs.Devices.{DevicesData, is_backed, places_in}

-- over these bytes of memory and these devices
abbrev pub reached : CoreData → List Region → (ℕ → ℕ) → DevicesData → Reach
reached core entries bytes devices =
    reach_of (by_regions core) (by_entries entries) (places_in devices) devices.ports bytes

-- what the second stage lets a core store to is a port's or is kept
abbrev pub IsContained : (ℕ → Bool) → List Region → List PortSpot → Type 0
IsContained is_kept entries spots =
    (at : ℕ) → IsTrue (is_allowed (by_entries entries Write at)) → IsTrue (is_backed spots is_kept at)
