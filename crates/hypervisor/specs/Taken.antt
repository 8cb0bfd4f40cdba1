-- For private clauses: what an event does on the machine, and to what the hypervisor keeps.
use Rattle.std.specs.Prelude.{◌≡◌, ℕ, ◌<◌, Bool, true, false, List, Option, None, Some, slice_get}
use Rattle.bao_types.specs.ListReg.{ListRegData}
use Rattle.bao_types.specs.Controller.{id_end}
use Rattle.a64_state.specs.Core.{CoreData}
use Rattle.bao_config.specs.Data.{ConfigData}
use Rattle.board.specs.Attempt.{Leave}
use Rattle.board.specs.declared.board.Exit.{Exit}
use Rattle.board.specs.declared.board.Exit.TheVariants as exit
use Rattle.board.specs.Interrupts.{is_raised}
use Rattle.board.specs.Machine.{Machine, carried_out, exit_after, machine_effect, port_given, ticked}
use Rattle.vgic_table.specs.Interrupts.{Interrupts, tables_of}
use Rattle.vgic_table.specs.Changes.{made_inactive, made_pending}
use Rattle.vm_model.specs.Duty.{done, duty_of}
use Rattle.vm_model.specs.Flat.{flat_forwarded, flat_ready, runs}
use Rattle.vm_model.specs.Guests.{Guests}
use Rattle.vm_model.specs.Interrupts.{with_table}
use Rattle.vm_model.specs.Project.{joined_tables}
use Rattle.hypervisor.specs.Change.{Change, IsListed}
use Rattle.hypervisor.specs.Hyp.{HypData, stands_for}
use Rattle.hypervisor.specs.declared.seat.Seat.{Seat}
use Rattle.hypervisor.specs.Seat.{IsSeatOf, line_of}
use Rattle.hypervisor.specs.Tidy.{AreHeld, Tidy}
use Rattle.hypervisor.specs.declared.event.Event.{Event}
use Rattle.hypervisor.specs.declared.event.Event.TheVariants.{Step, Input}

-- what the hypervisor works on, of the hypervisor and of a board
abbrev pub guests_of : ConfigData → HypData → Machine → Guests
guests_of cfg hyp m =
    record { cores = m.cores; powers = hyp.powers; tables = joined_tables cfg m.lists (tables_of hyp.tables) }

-- the board has these cores
abbrev pub with_cores : Machine → List CoreData → Machine
with_cores m cores = record m { cores = cores }

-- and these list registers
abbrev pub with_registers : Machine → List CoreData → List (List ListRegData) → Machine
with_registers m cores lists = record m { cores = cores; lists = lists }

-- Hypervisor and board have what the hypervisor works on, and hold the interrupts as before. Of the board nothing else has changed.
pub record IsLeft (cfg : ConfigData) (change : Change) (guests : Guests) : Type 0 where
  pub state : change.after ≡ with_registers change.before guests.cores change.after.lists
  pub powers : change.new.powers ≡ guests.powers
  pub tables : joined_tables cfg change.after.lists (tables_of change.new.tables) ≡ guests.tables
  pub held : AreHeld cfg change.new.tables change.after.lists

-- nothing has changed
pub record IsSame (change : Change) : Type 0 where
  pub hyp : change.new ≡ change.old
  pub board : change.after ≡ change.before

-- The lines that were raised for a core have been forwarded, and none is left. Cores and all else are as before.
pub record IsForwarded (cfg : ConfigData) (core : ℕ) (change : Change) : Type 0 where
  pub tidy : Tidy cfg change.new change.after
  pub state : stands_for cfg change.new change.after ≡ flat_forwarded cfg (stands_for cfg change.old change.before) core
  pub quiet : is_raised change.after.lines core ≡ false
  pub board :
      change.after ≡ record change.before { lists = change.after.lists; lines = change.after.lines }

-- A core that runs has taken a step at a count, from a state in which no line is raised for it and its best interrupt is listed.
-- That state stands for the model's before the step, and the step has ended so. Where the best interrupt was listed before, and
-- no line comes to be raised for the core, nothing has been done but to look at the core's timer.
pub record IsEntered (cfg : ConfigData) (change : Change) (core count : ℕ) (ended : Exit) : Type 0 where
  pub hyp : HypData
  pub board : Machine
  pub tidy : Tidy cfg hyp board
  pub state : stands_for cfg hyp board ≡ flat_ready cfg (stands_for cfg change.old change.before) core count
  pub quiet : is_raised board.lines core ≡ false
  pub listed : IsListed cfg hyp board core
  pub entered : board.entered ≡ change.before.entered
  pub spent : board.spent ≡ change.before.spent
  pub shape : board.shape ≡ change.before.shape
  pub entries : board.entries ≡ change.before.entries
  pub new : change.new ≡ hyp
  pub after : change.after ≡ carried_out board core (machine_effect board core count)
  pub exit : ended ≡ exit_after board core count
  pub calm :
      IsListed cfg change.old change.before core → is_raised (ticked change.before core count).lines core ≡ false
      → (hyp ≡ change.old) × (board ≡ ticked change.before core count)

-- an interrupt of a virtual core that stands in none of its list registers has ended
abbrev pub ended_guests : ℕ → ℕ → ℕ → Guests → Guests
ended_guests v own id guests = record guests { tables = with_table (Some v) (λ table. made_inactive table own id) guests.tables }

-- an id of a virtual core is pending, where there is one
abbrev pub pended_for : ℕ → Option ℕ → Interrupts → Interrupts
pended_for own None table = table
pended_for own (Some id) table = made_pending table own id

-- the id of a raised line is pending in a VM that has one for it
abbrev pub line_guests : ConfigData → ℕ → ℕ → ℕ → Guests → Guests
line_guests cfg v own intid guests =
    record guests { tables = with_table (Some v) (pended_for own (line_of cfg (slice_get cfg.vms v) intid)) guests.tables }

-- an id that ends is one of a core's
abbrev pub IsEndOfId : Exit → Type 0
IsEndOfId exit.Ran = Unit {0}
IsEndOfId exit.Irq = Unit {0}
IsEndOfId (exit.Sync esr far) = Unit {0}
IsEndOfId (exit.End id) = id < id_end

-- what follows how a core's step ended is done
abbrev pub IsSettled : ConfigData → ℕ → Exit → Change → Type 0
IsSettled cfg core exit.Ran change = IsSame change
IsSettled cfg core exit.Irq change = IsSame change
IsSettled cfg core (exit.Sync esr far) change =
    let guests : Guests = guests_of cfg change.old change.before in
    IsLeft cfg change (done cfg core (duty_of cfg core (Leave esr far) guests) guests)
IsSettled cfg core (exit.End id) change =
    (seat : Seat) → IsSeatOf cfg core seat → IsLeft cfg change (ended_guests seat.vm seat.own id (guests_of cfg change.old change.before))

-- a core that runs has taken a step and what follows it
pub record IsRun (cfg : ConfigData) (change : Change) (core count : ℕ) : Type 0 where
  pub hyp : HypData
  pub board : Machine
  pub ended : Exit
  pub entered : IsEntered cfg (record change { new = hyp; after = board }) core count ended
  pub settled : IsSettled cfg core ended (record change { old = hyp; before = board })

-- and one that doesn't run has done nothing
abbrev pub IsSteppedIf : Bool → ConfigData → Change → ℕ → ℕ → Type 0
IsSteppedIf true cfg change core count = IsRun cfg change core count
IsSteppedIf false cfg change core count = IsSame change

abbrev pub IsStepped : ConfigData → Change → ℕ → ℕ → Type 0
IsStepped cfg change core count =
    IsSteppedIf (runs cfg (stands_for cfg change.old change.before) core) cfg change core count

-- a port was given a byte
pub record IsGiven (change : Change) (port byte : ℕ) : Type 0 where
  pub hyp : change.new ≡ change.old
  pub board : change.after ≡ port_given change.before port byte

-- what an event left
abbrev pub IsAfter : ConfigData → Change → Event → Type 0
IsAfter cfg change (Step core count) = IsStepped cfg change core count
IsAfter cfg change (Input port byte) = IsGiven change port byte
