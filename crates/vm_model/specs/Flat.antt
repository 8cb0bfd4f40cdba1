-- The model: one flat machine of all VMs, which asks the configuration's map for each byte. There is no EL2 entry and no hypervisor in it.
use Rattle.std.specs.Prelude.{ℕ, ◌+◌, ◌==◌, ◌&&◌, ◌||◌, not, Bool, true, false, if◌then◌else◌, List, [], ◌∷◌, is_some, Option, None, Some, slice_get, slice_set}
use Rattle.a64_state.specs.Core.{CoreData}
use Rattle.a64_sysreg.specs.declared.moment.Moment.{Moment}
use Rattle.generic_timer.specs.Timer.{rises}
use Rattle.vgic_iface.specs.Interface.{signalled}
use Rattle.vgic_table.specs.Changes.{pended_at}
use Rattle.bao_config.specs.Data.{ConfigData, VmData}
use Rattle.bao_wellformed.specs.Map.{owner, by_map, has_port}
use Rattle.ports.specs.Registers.{after_input, line_of_input}
use Rattle.board.specs.Ports.{Places, PortStates, places_of, raises_line, with_port, all_accessed}
use Rattle.board.specs.Stage.{by_regions}
use Rattle.board.specs.Judge.{Reach, reach_of}
use Rattle.board.specs.Attempt.{Effect, step_effect}
use Rattle.board.specs.Interrupts.{core_after, timed}
use Rattle.board.specs.Machine.{core_at, written}
use Rattle.hypercalls.specs.declared.power.Power.{Power}
use Rattle.hypercalls.specs.declared.power.Power.TheVariants.{On, Off, Parked}
use Rattle.shared_windows.specs.Windows.{lists}
use Rattle.vm_model.specs.Cores.{place_of}
use Rattle.vm_model.specs.Guests.{Guests, Tables}
use Rattle.vm_model.specs.Interrupts.{RaisedLines, best_of, is_line_at, table_after, virtual_number, with_table}
use Rattle.vm_model.specs.Duty.{Duty, done, duty_of, rung}

-- memory by address, each core's registers and power by its number, each VM's interrupts by its place, what each port keeps,
-- by its number, and which lines are raised: of each core's timer, by the core's number, and of each port, by the port's
pub record Flat : Type 0 where
  pub bytes : ℕ → ℕ
  pub cores : List CoreData
  pub powers : List Power
  pub tables : Tables
  pub ports : PortStates
  pub timer_lines : ℕ → Bool
  pub port_lines : ℕ → Bool

-- What happens to the flat machine. A schedule has steps and inputs alone; a lone run also has what others wrote in shared
-- windows, and the events of shared memories that they rang.
pub data FlatEvent : Type 0 where
  Step : (core count : ℕ) → FlatEvent
  Input : (port byte : ℕ) → FlatEvent
  Wrote : List (ℕ × ℕ) → FlatEvent
  Rang : (shmem event : ℕ) → FlatEvent

abbrev pub is_on : Option Power → Bool
is_on None = false
is_on (Some On) = true
is_on (Some Off) = false
is_on (Some (Parked esr far)) = false

-- the core has a VM and is on
abbrev pub runs : ConfigData → Flat → ℕ → Bool
runs cfg f core = is_some (owner cfg core) && is_on (slice_get f.powers core)

-- where the ports of the platform stand
abbrev pub platform_places : ConfigData → Places
platform_places cfg = places_of (λ port. port.id) (λ port. port.base) cfg.platform.ports

-- what a core reaches, by its EL1 regions and the map
abbrev pub flat_reach : ConfigData → Flat → ℕ → Reach
flat_reach cfg f core =
    reach_of (by_regions (core_at f.cores core)) (by_map cfg core) (platform_places cfg) f.ports f.bytes

-- what a core's step is handed at a count: its VM's interrupts signal one
abbrev pub flat_moment : ConfigData → Flat → ℕ → ℕ → Moment
flat_moment cfg f core count =
    record { count = count; signal = signalled (core_at f.cores core).iface (best_of cfg f.tables core) }

-- what a step of the core does at a count
abbrev pub flat_effect : ConfigData → Flat → ℕ → ℕ → Effect
flat_effect cfg f core count = step_effect (flat_reach cfg f core) (core_at f.cores core) (flat_moment cfg f core count)

-- the cores, powers and interrupts as a step of a core leaves them to the hypervisor that does this
abbrev pub flat_guests : ConfigData → Flat → ℕ → Effect → Guests
flat_guests cfg f core effect =
    record {
      cores = slice_set f.cores core (core_after effect (best_of cfg f.tables core));
      powers = f.powers;
      tables = with_table (place_of cfg core) (table_after effect.outcome (virtual_number cfg core) effect.core.iface) f.tables;
    }

-- and what it leaves to do
abbrev pub flat_duty : ConfigData → Flat → ℕ → ℕ → Duty
flat_duty cfg f core count =
    duty_of cfg core (flat_effect cfg f core count).outcome (flat_guests cfg f core (flat_effect cfg f core count))

-- after a step of a core that leaves such cores, powers and interrupts
abbrev pub flat_left : ConfigData → Flat → ℕ → ℕ → Guests → Flat
flat_left cfg f core count guests =
    record {
      bytes = written (flat_effect cfg f core count).stored f.bytes;
      cores = guests.cores;
      powers = guests.powers;
      tables = guests.tables;
      ports = all_accessed (flat_effect cfg f core count).touched f.ports;
      timer_lines = f.timer_lines;
      port_lines = λ port. f.port_lines port || raises_line (flat_effect cfg f core count).touched f.ports port;
    }

-- after a step of a core for which no line is raised, and all that the hypervisor does about it
abbrev pub flat_stepped : ConfigData → Flat → ℕ → ℕ → Flat
flat_stepped cfg f core count =
    flat_left cfg f core count
    (done cfg core (flat_duty cfg f core count) (flat_guests cfg f core (flat_effect cfg f core count)))

-- once a core's timer is looked at, at a count: its line is raised where its level rises
abbrev pub flat_ticked : Flat → ℕ → ℕ → Flat
flat_ticked f core count =
    record f {
      cores = slice_set f.cores core (timed (core_at f.cores core) count);
      timer_lines = λ other. f.timer_lines other || other == core && rises (core_at f.cores core).timer count;
    }

abbrev pub has_dev : ℕ → Option VmData → Bool
has_dev port None = false
has_dev port (Some vm) = has_port port vm

-- which lines are raised, as a core sees them
abbrev pub raised_for : Flat → ℕ → RaisedLines
raised_for f core = record { timer = f.timer_lines core; ports = f.port_lines }

-- once the lines are forwarded that are raised for a core: its timer's and those of its VM's ports. Each makes its id pending in
-- the VM, and is raised no longer.
abbrev pub flat_forwarded : ConfigData → Flat → ℕ → Flat
flat_forwarded cfg f core =
    record f {
      tables =
          with_table (place_of cfg core)
          (pended_at (is_line_at cfg (owner cfg core) (virtual_number cfg core) (raised_for f core))) f.tables;
      timer_lines = λ other. f.timer_lines other && not (other == core);
      port_lines = λ port. f.port_lines port && not (has_dev port (owner cfg core));
    }

-- what comes before each step of a core that runs
abbrev pub flat_ready : ConfigData → Flat → ℕ → ℕ → Flat
flat_ready cfg f core count = flat_forwarded cfg (flat_ticked f core count) core

-- after a port is given a byte
abbrev pub flat_given : Flat → ℕ → ℕ → Flat
flat_given f port byte =
    record f {
      ports = with_port port (after_input (f.ports port) byte) f.ports;
      port_lines = λ other. f.port_lines other || other == port && line_of_input (f.ports port);
    }

-- one event
abbrev pub flat_step : ConfigData → Flat → FlatEvent → Flat
flat_step cfg f (Step core count) = if runs cfg f core then flat_stepped cfg (flat_ready cfg f core count) core count else f
flat_step cfg f (Input port byte) = flat_given f port byte
flat_step cfg f (Wrote stores) = record f { bytes = written stores f.bytes }
flat_step cfg f (Rang shmem event) = record f { tables = rung cfg (λ v. lists cfg v shmem) shmem event f.tables }

-- a whole run, from a state on
abbrev pub flat_run : ConfigData → Flat → List FlatEvent → Flat
flat_run cfg f [] = f
flat_run cfg f (event ∷ events) = flat_run cfg (flat_step cfg f event) events

-- the event enters a core: a step of a core that runs
abbrev pub is_entered : ConfigData → Flat → FlatEvent → Bool
is_entered cfg f (Step core count) = runs cfg f core
is_entered cfg f (Input port byte) = false
is_entered cfg f (Wrote stores) = false
is_entered cfg f (Rang shmem event) = false

-- how many events enter a core
abbrev pub entered_count : ConfigData → Flat → List FlatEvent → ℕ
entered_count cfg f [] = 0
entered_count cfg f (event ∷ events) =
    (if is_entered cfg f event then 1 else 0) + entered_count cfg (flat_step cfg f event) events
