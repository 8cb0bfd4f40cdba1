-- What a contract sees of `Lines`: which lines are raised, of each core's timer and of each port.
--
-- A port has one line for all cores of its VM. That every line is an edge, which stays raised until it is
-- acknowledged once, is our own choice.
use Rattle.std.specs.Prelude.{◌==◌, ℕ, Bool, true, false, if◌then◌else◌, List, [], ◌∷◌, ◌++◌, ◌||◌, Option, Some, None, map, filter, replicate, slice_index_or, slice_set}
use Rattle.std.specs.List.{list_any}
use Rattle.bao_types.specs.declared.shape.PortSpot.{PortSpot}
use Rattle.gic_core.specs.declared.port_line.PortLine.{PortLine}
use Rattle.gic_core.specs.Least.{least}
use Rattle.gic_core.specs.PortLine.{acknowledged_by, quiet_line, is_raised_for, raised_by}

-- whether PPI 27 is raised for each of the 8 cores, and the lines of the ports, in the ports' order
pub record LinesData : Type 0 where
  pub ppis : List Bool
  pub ports : List PortLine

-- no line is raised
abbrev pub quiet_lines : List PortSpot → LinesData
quiet_lines spots = record { ppis = replicate 8 false; ports = map quiet_line spots }

-- PPI 27 of `core` is raised
abbrev pub with_ppi : LinesData → ℕ → LinesData
with_ppi lines core = record lines { ppis = slice_set lines.ppis core true }

-- the line of a port is raised
abbrev pub with_port : LinesData → ℕ → LinesData
with_port lines port = record lines { ports = map (raised_by port) lines.ports }

-- PPI 27 of `core`, where it is raised
abbrev pub raised_ppis : LinesData → ℕ → List ℕ
raised_ppis lines core = if slice_index_or lines.ppis core false then 27 ∷ [] else []

-- the SPIs that are raised for `core`, in the ports' order
abbrev pub raised_spis : List PortLine → ℕ → List ℕ
raised_spis ports core = map (λ line. line.spi) (filter (λ line. is_raised_for line core) ports)

-- the numbers of the interrupts that are raised for `core`
abbrev pub raised_intids : LinesData → ℕ → List ℕ
raised_intids lines core = raised_ppis lines core ++ raised_spis lines.ports core

-- the interrupt that `core` acknowledges next
abbrev pub least_raised : LinesData → ℕ → Option ℕ
least_raised lines core = least (raised_intids lines core)

-- interrupt `intid` of `core` is raised no longer: its own PPI, or the line of a port of its VM; all other lines stay
abbrev pub without_intid : LinesData → ℕ → ℕ → LinesData
without_intid lines core intid =
    record {
      ppis = if intid == 27 then slice_set lines.ppis core false else lines.ppis;
      ports = map (acknowledged_by core intid) lines.ports;
    }

-- after an acknowledgement: nothing has changed where there was none
abbrev pub after_ack : LinesData → ℕ → Option ℕ → LinesData
after_ack lines core None = lines
after_ack lines core (Some intid) = without_intid lines core intid

-- a line is raised, for whichever core
abbrev pub is_any_raised : List Bool → List PortLine → Bool
is_any_raised ppis ports = list_any (λ raised. raised) ppis || list_any (λ line. line.raised) ports
