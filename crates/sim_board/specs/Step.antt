-- What a step goes over, what it does, and what it leaves.
use Rattle.std.specs.Prelude.{◌≡◌, ℕ, Bool, ◌||◌, ◌&&◌, if◌then◌else◌, List, Option, None, Some}
use Rattle.bao_types.specs.ListReg.{ListRegData}
use Rattle.bao_types.specs.declared.region.Region.{Region}
use Rattle.a64_state.specs.Core.{CoreData}
use Rattle.a64_decode.specs.Lawful.{IsLawful}
use Rattle.a64_decode.specs.Table.{decoded}
use Rattle.a64_execute.specs.Want.{wanted, access_asked, IsAccess}
use Rattle.a64_address.specs.declared.shape.MemShape.{MemShape}
use Rattle.gic_core.specs.Lines.{LinesData}
use Rattle.vgic_iface.specs.Interface.{best_listed, listed_signal}
use Rattle.a64_sysreg.specs.declared.moment.Moment.{Moment}
use Rattle.board.specs.declared.board.Exit.{Exit}
use Rattle.board.specs.declared.judged.Fault.{Fault}
use Rattle.board.specs.declared.judged.Judged.TheVariants.{Port}
use Rattle.board.specs.Attempt.{Asked, Effect, attempt, checked, checks_alignment, effect_of, is_misaligned, is_sp_misaligned, load_effect, step_effect, store_effect}
use Rattle.board.specs.Interrupts.{core_after, exit_of, lines_accessed, lists_after}
use Rattle.board.specs.Judge.{Reach}
use Rattle.board.specs.Machine.{written}
use Rattle.board.specs.Ports.{PortStates, all_accessed, elements_value, number_at}
use Rattle.phys_bank.specs.Banks.{BanksData, byte_at}
use Rattle.sim_board.specs.Devices.{DevicesData, places_in, source_in}
use Rattle.sim_board.specs.Reached.{reached}
use Rattle.sim_board.specs.declared.access.Way.{Way}
use Rattle.sim_board.specs.declared.access.Way.TheVariants as way
use Rattle.sim_board.specs.declared.step.Fetched.{Fetched}
use Rattle.sim_board.specs.declared.step.Request.{Request}

-- what a core's step goes over: the core, its list registers, the bytes of memory, and the ports with their lines
pub record StepState : Type 0 where
  pub core : CoreData
  pub lists : List ListRegData
  pub bytes : ℕ → ℕ
  pub devices : DevicesData

-- over this memory
abbrev pub step_state : CoreData → List ListRegData → BanksData → DevicesData → StepState
step_state core lists memory devices = record { core = core; lists = lists; bytes = byte_at memory; devices = devices }

-- the core, its list registers, memory, the ports and the interrupt lines after a step, and how it ended
pub record StepEnd : Type 0 where
  pub core : CoreData
  pub lists : List ListRegData
  pub bytes : ℕ → ℕ
  pub ports : PortStates
  pub lines : LinesData
  pub exit : Exit

-- from a state, once this was carried out
abbrev pub carried_out : Effect → StepState → StepEnd
carried_out effect state =
    record {
      core = core_after effect (best_listed state.lists);
      lists = lists_after effect.outcome effect.core.iface state.lists;
      bytes = written effect.stored state.bytes;
      ports = all_accessed effect.touched state.devices.ports;
      lines = lines_accessed effect.touched state.devices.ports state.devices.lines;
      exit = exit_of effect.outcome state.lists;
    }

-- a step that does this leads from the one state to the other, and ends so
abbrev pub Leads : (StepState → Effect) → StepState → StepState → Exit → Type 0
Leads effect before after exit =
    record {
      core = after.core;
      lists = after.lists;
      bytes = after.bytes;
      ports = after.devices.ports;
      lines = after.devices.lines;
      exit = exit;
    }
    ≡ carried_out (effect before) before

-- a step that leaves all but the core has this effect, if it leaves this core and ends so
abbrev pub Ends : Effect → CoreData → Exit → Type 0
Ends effect core exit = (before : StepState) → Leads (λ state. effect) before (record before { core = core }) exit

-- what a step is handed at a count, by its core's list registers
abbrev pub moment_of : CoreData → List ListRegData → ℕ → Moment
moment_of core lists count = record { count = count; signal = listed_signal core.iface lists }

-- what a core reaches in a state, by its EL2 entries
abbrev pub reach_in : List Region → StepState → Reach
reach_in entries state = reached state.core entries state.bytes state.devices

-- what a step does at a count, and what it does at a moment if it takes no interrupt
abbrev pub step_in : List Region → ℕ → StepState → Effect
step_in entries count state = step_effect (reach_in entries state) state.core (moment_of state.core state.lists count)

abbrev pub attempt_in : List Region → Moment → StepState → Effect
attempt_in entries moment state = attempt (reach_in entries state) state.core moment

-- what an instruction does that was fetched
abbrev pub executed_in : List Region → Fetched → StepState → Effect
executed_in entries fetched state =
    effect_of (reach_in entries state) state.core fetched.moment fetched.instr (wanted state.core fetched.instr)

-- what a core attempts once it comes to the word at PC, which is in memory
abbrev pub worded : Reach → CoreData → Moment → (ℕ → ℕ) → Effect
worded reach core moment bytes =
    let instr = decoded (number_at bytes core.pc 4) in effect_of reach core moment instr (wanted core instr)

-- an attempt that comes to its word leaves the core as it is till then; one that comes to none leaves this core and ends so
abbrev pub Begins : Effect → Effect → CoreData → CoreData → Option Exit → Type 0
Begins whole word core next None = (next ≡ core) × (whole ≡ word)
Begins whole word core next (Some exit) = Ends whole next exit

-- what a core that reaches memory by these entries leaves before it comes to its word, whatever memory and the devices hold
abbrev pub IsBegun : CoreData → List Region → CoreData → Option Exit → Type 0
IsBegun core entries next exit =
    (moment : Moment) (bytes : ℕ → ℕ) (devices : DevicesData)
    → Begins (attempt (reached core entries bytes devices) core moment)
    (worded (reached core entries bytes devices) core moment bytes) core next exit

-- a core's instruction asks for this access
pub record IsRequested (core : CoreData) (request : Request) : Type 0 where
  pub lawful : IsLawful request.fetched.now.instr
  pub access : IsAccess request.shape.now
  pub need : access_asked (wanted core request.fetched.now.instr) ≡ Some request.shape.now

-- the access of a request, with the instruction that asks for it
abbrev pub asked_of : Request → Asked
asked_of request =
    record { moment = request.fetched.now.moment; instr = request.fetched.now.instr; shape = request.shape.now }

-- what a load and a store do, once SP and their start were checked
abbrev pub load_in : List Region → Request → StepState → Effect
load_in entries request state =
    let shape : MemShape = request.shape.now in
    load_effect (places_in state.devices) state.core (asked_of request)
    ((reach_in entries state).loaded shape.at shape.width shape.count)

abbrev pub store_in : List Region → Request → StepState → Effect
store_in entries request state =
    let shape : MemShape = request.shape.now in
    store_effect (places_in state.devices) state.core (asked_of request) request.value
    ((reach_in entries state).storable shape.at shape.width shape.count)

-- and before that
abbrev pub checked_in : (StepState → Effect) → Request → StepState → Effect
checked_in judged request state = checked state.core request.fetched.now.instr request.shape.now (judged state)

-- what those do of whose bytes one is a port's, where all are allowed
abbrev pub port_load_in : Request → StepState → Effect
port_load_in request state =
    let shape : MemShape = request.shape.now in
    load_effect (places_in state.devices) state.core (asked_of request)
    (Port (elements_value (source_in state.bytes state.devices) shape.at shape.width shape.count))

abbrev pub port_store_in : Request → StepState → Effect
port_store_in request state = store_effect (places_in state.devices) state.core (asked_of request) request.value (Port 0)

-- an access with this first fault, of whose bytes none is a port's or some are
abbrev pub way_of : Option Fault → Bool → Way
way_of None free = if free then way.Memory else way.Port
way_of (Some fault) free = way.Refused fault

-- an access isn't judged: a check before stops it
abbrev pub is_stopped : CoreData → MemShape → Bool
is_stopped core shape = is_sp_misaligned core shape || (checks_alignment core && is_misaligned shape)
