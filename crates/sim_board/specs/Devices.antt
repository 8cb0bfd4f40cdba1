-- The ports of a board, by what a step asks of them.
use Rattle.std.specs.Prelude.{◌≡◌, ℕ, ◌*◌, min, Bool, ◌||◌, List, [], ◌∷◌, slice_index_or}
use Rattle.bao_types.specs.Shape.{event_limit}
use Rattle.bao_types.specs.declared.shape.PortSpot.{PortSpot}
use Rattle.ports.specs.PortState.{PortState, new_port}
use Rattle.ports.specs.declared.port.PortKind.TheVariants.{Console}
use Rattle.gic_core.specs.Lines.{LinesData}
use Rattle.board.specs.Interrupts.{lines_accessed}
use Rattle.board.specs.Machine.{port_places}
use Rattle.board.specs.Ports.{PortByte as PlaceInPort, Places, PortAccess, PortStates, Source, all_accessed, is_port}
use Rattle.sim_board.specs.declared.spots.PortByte.{PortByte}

-- where the ports stand, what each of them keeps, by its number, and which interrupt lines are raised
pub record DevicesData : Type 0 where
  pub spots : List PortSpot
  pub ports : PortStates
  pub lines : LinesData

-- for each address, the byte of a port that stands there
abbrev pub places_in : DevicesData → Places
places_in devices = port_places devices.spots

-- what elements are read from, over these bytes of memory
abbrev pub source_in : (ℕ → ℕ) → DevicesData → Source
source_in bytes devices = record { places = places_in devices; states = devices.ports; bytes = bytes }

-- these accesses, by where the ports stand, lead from the one to the other
pub record AreAccessed (accesses : Places → List PortAccess) (before after : DevicesData) : Type 0 where
  pub ports : after.ports ≡ all_accessed (accesses (places_in before)) before.ports
  pub lines : after.lines ≡ lines_accessed (accesses (places_in before)) before.ports before.lines
  pub spots : after.spots ≡ before.spots

-- what each port keeps, by its number, of ports whose states are listed in order
abbrev pub states_of : List PortState → PortStates
states_of states port = slice_index_or states port (new_port Console)

-- of ports that have room for this many writes and inputs each: for how many all have it, of as many as a board takes at most
abbrev pub least_room : List ℕ → ℕ
least_room [] = 2 * event_limit
least_room (spare ∷ spares) = min spare (least_room spares)

-- the byte of a port as the code holds it
abbrev pub place_of : PortByte → PlaceInPort
place_of byte = record { port = byte.port; offset = byte.offset }

-- a byte is a port's, or is kept in memory
abbrev pub is_backed : List PortSpot → (ℕ → Bool) → ℕ → Bool
is_backed spots is_kept at = is_port (port_places spots) at || is_kept at
