-- The state of a board, as the hypervisor sees it, and what each call makes of it.
use Rattle.std.specs.Prelude.{◌≡◌, ℕ, ◌+◌, ◌-◌, ◌%◌, ◌<◌, ◌≤◌, ◌==◌, ◌&&◌, ◌⊎◌, nat_le, nat_lt, Bool, true, if◌then◌else◌, IsTrue, IsFalse, List, [], ◌∷◌, All, map, length, replicate, slice_index, slice_index_or, slice_set, sum}
use Rattle.std.specs.List.{AllPairs, list_any}
use Rattle.bao_types.specs.declared.region.Region.{Region}
use Rattle.bao_types.specs.ByteRange.{address_space_end, end, is_in_one, lies_in, overlaps}
use Rattle.bao_types.specs.Region.{no_region, access_permission, covers, is_enabled, is_execute_never}
use Rattle.bao_types.specs.declared.shape.PortSpot.{PortSpot}
use Rattle.bao_types.specs.Shape.{ShapeData, event_limit, memory_limit, port_range, port_size}
use Rattle.bao_types.specs.ListReg.{ListRegData, free_registers, lists_at}
use Rattle.a64_state.specs.Core.{CoreData}
use Rattle.a64_state.specs.Registers.{reset_core}
use Rattle.a64_sysreg.specs.declared.moment.Moment.{Moment}
use Rattle.ports.specs.Registers.{after_input}
use Rattle.gic_core.specs.Lines.{LinesData, after_ack, least_raised, quiet_lines}
use Rattle.vgic_iface.specs.Interface.{best_listed, listed_signal}
use Rattle.board.specs.Ports.{Places, PortStates, places_of, is_port, port_count, with_port, all_accessed}
use Rattle.board.specs.Stage.{by_regions, by_entries}
use Rattle.board.specs.declared.board.Exit.{Exit}
use Rattle.board.specs.declared.board.Exit.TheVariants as exit
use Rattle.board.specs.Judge.{Reach, reach_of}
use Rattle.board.specs.Attempt.{Effect, step_effect}
use Rattle.board.specs.Interrupts.{core_after, exit_of, is_raised, lines_accessed, lines_given, lines_timed, lists_after, timed}

-- bytes is all memory by address, 0 outside the used ranges; entries are each core's EL2 protection regions; ports is what each
-- port keeps, by its number; lists are each core's list registers; lines are the raised interrupt lines; entered and spent count
-- the steps and the events since the board was fitted
pub record Machine : Type 0 where
  pub fitted : Bool
  pub shape : ShapeData
  pub bytes : ℕ → ℕ
  pub cores : List CoreData
  pub lists : List (List ListRegData)
  pub entries : List (List Region)
  pub ports : PortStates
  pub lines : LinesData
  pub entered : ℕ
  pub spent : ℕ

-- the registers of a core; there is none past the last
abbrev pub core_at : List CoreData → ℕ → CoreData
core_at cores core = slice_index_or cores core (reset_core 0)

-- and its EL2 protection regions
abbrev pub entries_at : List (List Region) → ℕ → List Region
entries_at entries core = slice_index_or entries core []

-- the byte is in a range of memory in use
abbrev pub is_used : ShapeData → ℕ → Bool
is_used shape = is_in_one (λ range. range) shape.used

-- where the ports of a board stand
abbrev pub port_places : List PortSpot → Places
port_places = places_of (λ port. port.id) (λ port. port.base)

-- What a board can be fitted with: at most eight banks, which don't overlap, end at or below 2^48 and have at most 64 MiB together;
-- ports of the standard list, each at a multiple of its size; ranges in use, each of which lies in one bank and overlaps no port;
-- cores of at most 32 entries; and at most a million events
pub record IsFittable (shape : ShapeData) : Type 0 where
  pub bank_count : length shape.banks ≤ 8
  pub banks_apart : AllPairs (λ one other. IsFalse (overlaps one other)) shape.banks
  pub bank_ends : All (λ bank. end bank ≤ address_space_end) shape.banks
  pub bank_sizes : sum (map (λ bank. bank.size) shape.banks) ≤ memory_limit
  pub port_numbers : All (λ port. port.id < port_count) shape.ports
  pub port_bases : All (λ port. port.base % port_size ≡ 0) shape.ports
  pub used : All (λ range. IsTrue (list_any (lies_in range) shape.banks)) shape.used
  pub ports_apart : All (λ range. All (λ port. IsFalse (overlaps range (port_range port.base))) shape.ports) shape.used
  pub entry_counts : All (λ place. place.entries ≤ 32) shape.cores
  pub events : shape.events ≤ event_limit

-- freshly fitted: memory and entries are zero, the cores are reset, no line is raised; the ports stay as they were
abbrev pub fitted_with : ShapeData → Machine → Machine
fitted_with shape m =
    record {
      fitted = true;
      shape = shape;
      bytes = λ at. 0;
      cores = map (λ place. reset_core place.affinity) shape.cores;
      lists = map (λ place. free_registers) shape.cores;
      entries = map (λ place. replicate place.entries no_region) shape.cores;
      ports = m.ports;
      lines = quiet_lines shape.ports;
      entered = 0;
      spent = 0;
    }

-- memory with these bytes from an address on
abbrev pub over : ℕ → List ℕ → (ℕ → ℕ) → ℕ → ℕ
over from bytes old at =
    if nat_le from at && nat_lt at (from + length bytes) then slice_index bytes (at - from) else old at

-- memory with one byte written
abbrev pub with_byte : ℕ → ℕ → (ℕ → ℕ) → ℕ → ℕ
with_byte at value old place = if place == at then value else old place

-- memory after these bytes are written, in order
abbrev pub written : List (ℕ × ℕ) → (ℕ → ℕ) → ℕ → ℕ
written [] bytes = bytes
written (store ∷ stores) bytes = written stores (with_byte store.0 store.1 bytes)

-- each of this many bytes from an address on is in use
abbrev pub AreUsed : ShapeData → ℕ → ℕ → Type 0
AreUsed shape from count = (at : ℕ) → from ≤ at → at < from + count → IsTrue (is_used shape at)

-- A guest is given memory in use and ports alone, and no port to execute. AP 0 and 2 are for EL2 alone.
abbrev pub IsSafeEntry : ShapeData → Region → Type 0
IsSafeEntry shape entry =
    IsTrue (is_enabled entry) → (access_permission entry ≡ 1) ⊎ (access_permission entry ≡ 3)
    → (at : ℕ) → IsTrue (covers entry at)
    → IsTrue (is_used shape at) ⊎ (IsTrue (is_port (port_places shape.ports) at) × IsTrue (is_execute_never entry))

-- the entry is set
abbrev pub with_entry : Machine → ℕ → ℕ → Region → Machine
with_entry m core index entry =
    record m { entries = slice_set m.entries core (slice_set (entries_at m.entries core) index entry) }

-- these are the registers of the core
abbrev pub with_core : Machine → ℕ → CoreData → Machine
with_core m core registers = record m { cores = slice_set m.cores core registers }

-- a fresh core begins at pc with arg in X0
abbrev pub begun : CoreData → ℕ → ℕ → CoreData
begun fresh pc arg = record fresh { x = slice_set fresh.x 0 arg; pc = pc }

-- the core is reset, and begins so
abbrev pub core_started : ShapeData → ℕ → ℕ → ℕ → CoreData
core_started shape core pc arg =
    begun (reset_core (slice_index_or shape.cores core (record { entries = 0; affinity = 0 })).affinity) pc arg

-- its list registers are free again
abbrev pub restarted : Machine → ℕ → ℕ → ℕ → Machine
restarted m core pc arg =
    record m {
      cores = slice_set m.cores core (core_started m.shape core pc arg);
      lists = slice_set m.lists core free_registers;
    }

-- these are the list registers of a core
abbrev pub with_lists : Machine → ℕ → List ListRegData → Machine
with_lists m core lists = record m { lists = slice_set m.lists core lists }

-- after a core took the least interrupt that is raised for it
abbrev pub acked : Machine → ℕ → Machine
acked m core = record m { lines = after_ack m.lines core (least_raised m.lines core) }

-- what a core reaches, by its EL1 regions and its EL2 entries
abbrev pub machine_reach : Machine → ℕ → Reach
machine_reach m core =
    reach_of (by_regions (core_at m.cores core)) (by_entries (entries_at m.entries core)) (port_places m.shape.ports) m.ports m.bytes

-- what a core's step is handed at a count: its list registers signal an interrupt
abbrev pub moment_at : Machine → ℕ → ℕ → Moment
moment_at m core count =
    record { count = count; signal = listed_signal (core_at m.cores core).iface (lists_at m.lists core) }

-- what the core's next step does at a count, where no line is raised for it
abbrev pub machine_effect : Machine → ℕ → ℕ → Effect
machine_effect m core count = step_effect (machine_reach m core) (core_at m.cores core) (moment_at m core count)

-- once a core's timer is looked at, at a count
abbrev pub ticked : Machine → ℕ → ℕ → Machine
ticked m core count =
    record m {
      cores = slice_set m.cores core (timed (core_at m.cores core) count);
      lines = lines_timed m.lines core (core_at m.cores core) count;
    }

-- after a step of the core that does this
abbrev pub carried_out : Machine → ℕ → Effect → Machine
carried_out m core effect =
    record m {
      bytes = written effect.stored m.bytes;
      ports = all_accessed effect.touched m.ports;
      lines = lines_accessed effect.touched m.ports m.lines;
      cores = slice_set m.cores core (core_after effect (best_listed (lists_at m.lists core)));
      lists = slice_set m.lists core (lists_after effect.outcome effect.core.iface (lists_at m.lists core));
      entered = m.entered + 1;
      spent = m.spent + 1;
    }

-- A step of a core whose timer has been looked at. Where a line is raised for the core, EL2 is to take it, and that is all.
abbrev pub proceeded : Machine → ℕ → ℕ → Machine
proceeded m core count = if is_raised m.lines core then m else carried_out m core (machine_effect m core count)

abbrev pub exit_after : Machine → ℕ → ℕ → Exit
exit_after m core count =
    if is_raised m.lines core then exit.Irq else exit_of (machine_effect m core count).outcome (lists_at m.lists core)

-- after a step of the core that is handed a count, and how it ends
abbrev pub stepped : Machine → ℕ → ℕ → Machine
stepped m core count = proceeded (ticked m core count) core count

abbrev pub step_exit : Machine → ℕ → ℕ → Exit
step_exit m core count = exit_after (ticked m core count) core count

-- after a port is given a byte
abbrev pub port_given : Machine → ℕ → ℕ → Machine
port_given m port byte =
    record m {
      ports = with_port port (after_input (m.ports port) byte) m.ports;
      lines = lines_given m.ports port m.lines;
      spent = m.spent + 1;
    }
