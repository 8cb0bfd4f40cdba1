-- The line of one port.
use Rattle.std.specs.Prelude.{◌==◌, ℕ, Bool, false, ◌&&◌, ◌||◌, not, if◌then◌else◌, min, Option, Some}
use Rattle.std.specs.Option.{option_map_or}
use Rattle.std.specs.Int.{bit_at}
use Rattle.bao_types.specs.declared.shape.PortSpot.{PortSpot}
use Rattle.gic_core.specs.declared.port_line.PortLine.{PortLine}

-- the VM that owns the port has this core
abbrev pub reaches : PortLine → ℕ → Bool
reaches line core = bit_at line.cores core == 1

-- the line is raised, and for this core
abbrev pub is_raised_for : PortLine → ℕ → Bool
is_raised_for line core = line.raised && reaches line core

-- the lesser of a number and the line's, where the line is raised for this core
abbrev pub lesser : PortLine → ℕ → Option ℕ → Option ℕ
lesser line core least = if is_raised_for line core then Some (option_map_or (min line.spi) least line.spi) else least

-- the line as it stands in a new board: not raised
abbrev pub quiet_line : PortSpot → PortLine
quiet_line spot = record { port = spot.id; spi = spot.spi; cores = spot.cores; raised = false }

-- the line after that of a port is raised
abbrev pub raised_by : ℕ → PortLine → PortLine
raised_by port line = record line { raised = line.raised || line.port == port }

-- the line after `core` acknowledged the interrupt `intid`
abbrev pub acknowledged_by : ℕ → ℕ → PortLine → PortLine
acknowledged_by core intid line = record line { raised = line.raised && not (line.spi == intid && reaches line core) }
