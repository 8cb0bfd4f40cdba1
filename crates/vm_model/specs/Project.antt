-- What a board is to the model.
use Rattle.std.specs.Prelude.{ℕ, ◌==◌, ◌&&◌, Bool, false, List, map, slice_get, slice_index_or}
use Rattle.std.specs.List.{list_any}
use Rattle.bao_types.specs.ListReg.{ListRegData, lists_at}
use Rattle.bao_config.specs.Data.{ConfigData}
use Rattle.gic_core.specs.declared.port_line.PortLine.{PortLine}
use Rattle.board.specs.Machine.{Machine}
use Rattle.hypercalls.specs.declared.power.Power.{Power}
use Rattle.vgic_table.specs.Cores.{joined_cores}
use Rattle.vm_model.specs.Duty.{cores_of}
use Rattle.vm_model.specs.Guests.{Tables}
use Rattle.vm_model.specs.Flat.{Flat}

-- the list registers of a VM's cores, by their virtual numbers
abbrev pub lists_of : ConfigData → List (List ListRegData) → ℕ → List (List ListRegData)
lists_of cfg lists v = map (λ core. lists_at lists core) (cores_of (slice_get cfg.vms v))

-- each VM's interrupts: those in its table and those that stand in list registers of its cores, together
abbrev pub joined_tables : ConfigData → List (List ListRegData) → Tables → Tables
joined_tables cfg lists tables v = joined_cores 0 (lists_of cfg lists v) (tables v)

-- the line of a port is raised
abbrev pub is_port_raised : List PortLine → ℕ → Bool
is_port_raised lines port = list_any (λ line. line.port == port && line.raised) lines

-- the flat machine for which a board stands, whose cores have these powers, and whose VMs these interrupts besides those in list
-- registers
abbrev pub project : ConfigData → List Power → Tables → Machine → Flat
project cfg powers tables m =
    record {
      bytes = m.bytes;
      cores = m.cores;
      powers = powers;
      tables = joined_tables cfg m.lists tables;
      ports = m.ports;
      timer_lines = λ core. slice_index_or m.lines.ppis core false;
      port_lines = is_port_raised m.lines.ports;
    }
