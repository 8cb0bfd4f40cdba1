-- The bounds of the integers of a configuration, which `docs/configuration.md` lists too.
use Rattle.std.specs.Prelude.{◌≡◌, ℕ, ℤ, pos, negsuc, ◌≤◌, ◌-◌, ◌%◌, ◌==◌, Bool, false, ◌&&◌, nat_le}
use Rattle.bao_types.specs.ByteRange.{address_space_end}
use Rattle.bao_types.specs.Controller.{frame_size, id_end}
use Rattle.bao_types.specs.Region.{granule}
use Rattle.bao_types.specs.Shape.{port_size}
use Rattle.bao_config.specs.declared.bounds.Bounds.{Bounds}

-- the number is within the bounds, both included, and a multiple of the stated one
pub record IsInBounds (bounds : Bounds) (n : ℕ) : Type 0 where
  pub least : bounds.least ≤ n
  pub most : n ≤ bounds.most
  pub multiple : n % bounds.multiple ≡ 0

-- the same as a test; no negative number passes
abbrev pub is_in_bounds : Bounds → ℤ → Bool
is_in_bounds bounds (pos n) = nat_le bounds.least n && nat_le n bounds.most && (n % bounds.multiple == 0)
is_in_bounds bounds (negsuc n) = false

-- the bytes of an instruction
abbrev pub instruction_size : ℕ
instruction_size = 4

abbrev pub version : Bounds
version = record { least = 1; most = 1; multiple = 1 }

-- the first address of a range, which is a number of granules
abbrev pub base : Bounds
base = record { least = 0; most = address_space_end - granule; multiple = granule }

-- the number of bytes of a range, which is a number of granules
abbrev pub size : Bounds
size = record { least = granule; most = address_space_end; multiple = granule }

-- the number of EL2 protection regions of a core
abbrev pub entries : Bounds
entries = record { least = 1; most = 32; multiple = 1 }

-- the address of a frame of the interrupt controller
abbrev pub frame : Bounds
frame = record { least = frame_size; most = address_space_end - frame_size; multiple = frame_size }

-- a place in the standard list of ports
abbrev pub port_id : Bounds
port_id = record { least = 0; most = 15; multiple = 1 }

-- the address of a port
abbrev pub port_base : Bounds
port_base = record { least = 0; most = address_space_end - port_size; multiple = port_size }

-- an interrupt number that is shared by all cores
abbrev pub interrupt : Bounds
interrupt = record { least = 32; most = id_end - 1; multiple = 1 }

-- how many events a shared memory has
abbrev pub events : Bounds
events = record { least = 1; most = 8; multiple = 1 }

-- the address of an instruction
abbrev pub instruction : Bounds
instruction = record { least = 0; most = address_space_end - instruction_size; multiple = instruction_size }

-- a place in the list of cores
abbrev pub core : Bounds
core = record { least = 0; most = 7; multiple = 1 }

-- a place in the list of shared memories
abbrev pub shared : Bounds
shared = record { least = 0; most = 7; multiple = 1 }
