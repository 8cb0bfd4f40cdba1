-- What a contract sees of a `Shape`: its plain data, with lists in the place of the vectors that hold them.
use Rattle.std.specs.Prelude.{ℕ, Bool, List}
use Rattle.bao_types.specs.ByteRange.{is_in_one}
use Rattle.bao_types.specs.declared.range.ByteRange.{ByteRange}
use Rattle.bao_types.specs.declared.shape.CorePlace.{CorePlace}
use Rattle.bao_types.specs.declared.shape.PortSpot.{PortSpot}
use Rattle.bao_types.specs.declared.shape.Shape.{Shape}

-- the most events that a board takes
abbrev pub event_limit : ℕ
event_limit = 1000000

-- the most memory that the banks may have together: 64 MiB
abbrev pub memory_limit : ℕ
memory_limit = 0x4000000

-- the number of bytes of a device port
abbrev pub port_size : ℕ
port_size = 64

-- the bytes of the port at this address
abbrev pub port_range : ℕ → ByteRange
port_range base = record { base = base; size = port_size }

-- the byte is one of a port's, of the ports as a board has them
abbrev pub is_port_of : List PortSpot → ℕ → Bool
is_port_of ports = is_in_one (λ port. port_range port.base) ports

pub record ShapeData : Type 0 where
  pub banks : List ByteRange
  pub cores : List CorePlace
  pub ports : List PortSpot
  pub used : List ByteRange
  pub events : ℕ

abbrev pub shape_data : Shape → ShapeData
shape_data shape =
    record {
      banks = shape.banks.items;
      cores = shape.cores.items;
      ports = shape.ports.items;
      used = shape.used.items;
      events = shape.events;
    }
