-- What a step leaves to the hypervisor, and what that makes of the VMs. HVC and SMC are answered as calls of the VM: what
-- comes of one is a matter of `hypercalls`. An access to a frame of the VM's interrupt controller is answered from its interrupts,
-- and a core sends interrupts to cores of its VM; all else that goes to EL2 parks the core. What an interrupt that is taken or
-- ends changes is done with the step.
use Rattle.std.specs.Prelude.{ℕ, ◌==◌, ◌||◌, Bool, true, false, if◌then◌else◌, List, [], ◌∷◌, map, Option, None, Some, slice_get, slice_index, slice_index_or, slice_set}
use Rattle.bao_types.specs.Bits.{field}
use Rattle.a64_state.specs.Core.{CoreData}
use Rattle.a64_state.specs.Registers.{reset_core, with_x, x_of}
use Rattle.a64_execute.specs.Branch.{advanced}
use Rattle.exceptions.specs.declared.class.Class.TheVariants.{Hvc, Smc}
use Rattle.bao_config.specs.Data.{ConfigData, VmData}
use Rattle.bao_wellformed.specs.Map.{owner}
use Rattle.board.specs.Attempt.{Outcome, Ran, Acknowledged, Ended, Leave}
use Rattle.board.specs.Machine.{begun, core_at}
use Rattle.shared_windows.specs.Windows.{irq_of, is_member}
use Rattle.hypercalls.specs.Calls.{answer_of, call_of, not_supported}
use Rattle.hypercalls.specs.declared.outcome.Outcome.TheVariants as call
use Rattle.hypercalls.specs.declared.outcome.Outcome as calls
use Rattle.hypercalls.specs.declared.power.Power.{Power}
use Rattle.hypercalls.specs.declared.power.Power.TheVariants.{On, Off, Parked}
use Rattle.vgic_emul.specs.Registers.{answer}
use Rattle.vgic_table.specs.Interrupts.{Interrupts}
use Rattle.vgic_table.specs.Changes.{made_pending}
use Rattle.vm_model.specs.Cores.{affinity_of, place_of}
use Rattle.vm_model.specs.Guests.{Guests, Tables}
use Rattle.vm_model.specs.Frames.{FrameAccess, accessed, after_access, frame_access}
use Rattle.vm_model.specs.Interrupts.{virtual_number, with_table}
use Rattle.vm_model.specs.Sent.{is_send, sent, sent_value}
use Rattle.vm_model.specs.Syndrome.{is_of_class}

-- the exception is a call
abbrev pub is_hvc : ℕ → Bool
is_hvc esr = is_of_class Hvc esr

abbrev pub is_smc : ℕ → Bool
is_smc esr = is_of_class Smc esr

abbrev pub is_call : ℕ → Bool
is_call esr = is_hvc esr || is_smc esr

-- the immediate of the instruction
abbrev pub immediate : ℕ → ℕ
immediate esr = field esr 15 0

-- the physical cores of a VM, in the order of their virtual numbers
abbrev pub cores_of : Option VmData → List ℕ
cores_of None = []
cores_of (Some vm) = vm.cores

-- their powers; a core that the platform doesn't have is off
abbrev pub powers_of : List ℕ → List Power → List Power
powers_of cores powers = map (λ core. slice_index_or powers core Off) cores

-- x0 to x3
abbrev pub arguments : CoreData → List ℕ
arguments core = x_of core 0 ∷ x_of core 1 ∷ x_of core 2 ∷ x_of core 3 ∷ []

-- What comes of a call of a core of the VM at a place. One with an immediate other than 0 asks for nothing that is known.
abbrev pub call_outcome : ConfigData → ℕ → ℕ → ℕ → Guests → calls.Outcome
call_outcome cfg v core esr guests =
    if immediate esr == 0
    then call_of cfg v (powers_of (cores_of (slice_get cfg.vms v)) guests.powers) (arguments (core_at guests.cores core))
    else call.Answer not_supported

-- What a step leaves to do: nothing; to park the core, with syndrome and fault address; to answer a call of the VM at a place,
-- made by SMC or by HVC, of which this comes; to answer its access to a frame of its interrupt controller; or to send what its
-- core with a number has written.
pub data Duty : Type 0 where
  Nothing : Duty
  Park : (esr far : ℕ) → Duty
  Call : (v : ℕ) (smc : Bool) (outcome : calls.Outcome) → Duty
  Emulate : (v : ℕ) (access : FrameAccess) → Duty
  Send : (v own value : ℕ) → Duty

abbrev pub call_duty : ConfigData → Option ℕ → ℕ → ℕ → Guests → Duty
call_duty cfg None core esr guests = Nothing
call_duty cfg (Some v) core esr guests = Call v (is_smc esr) (call_outcome cfg v core esr guests)

abbrev pub send_duty : ConfigData → Option ℕ → ℕ → ℕ → Guests → Duty
send_duty cfg None core esr guests = Nothing
send_duty cfg (Some v) core esr guests = Send v (virtual_number cfg core) (sent_value (core_at guests.cores core) esr)

abbrev pub abort_duty : Option ℕ → Option FrameAccess → ℕ → ℕ → Duty
abort_duty v None esr far = Park esr far
abort_duty None (Some access) esr far = Nothing
abort_duty (Some v) (Some access) esr far = Emulate v access

abbrev pub duty_of : ConfigData → ℕ → Outcome → Guests → Duty
duty_of cfg core Ran guests = Nothing
duty_of cfg core Acknowledged guests = Nothing
duty_of cfg core (Ended id) guests = Nothing
duty_of cfg core (Leave esr far) guests =
    if is_call esr then call_duty cfg (place_of cfg core) core esr guests
    else if is_send esr then send_duty cfg (place_of cfg core) core esr guests
    else abort_duty (place_of cfg core) (frame_access cfg (owner cfg core) esr far) esr far

-- The core that called: x0 is the answer, and SMC is stepped past; but a core that the call turned off stays as it is.
abbrev pub answered : Bool → Option ℕ → CoreData → CoreData
answered smc None core = core
answered smc (Some value) core = if smc then advanced (with_x core 0 value) else with_x core 0 value

-- the event of a shared memory is pending in a VM that has a number for it, among the ids of its first core
abbrev pub pended : Option ℕ → Interrupts → Interrupts
pended None table = table
pended (Some irq) table = made_pending table 0 irq

-- the event of a shared memory is pending in each of these VMs
abbrev pub rung : ConfigData → (ℕ → Bool) → ℕ → ℕ → Tables → Tables
rung cfg hears shmem event tables v = if hears v then pended (irq_of cfg v shmem event) (tables v) else tables v

-- a core is reset, and begins at an entry with an argument in x0
abbrev pub started : ConfigData → ℕ → ℕ → ℕ → CoreData
started cfg core entry arg = begun (reset_core (affinity_of (owner cfg core) core)) entry arg

abbrev pub turned_on : ConfigData → ℕ → ℕ → ℕ → Guests → Guests
turned_on cfg core entry arg guests =
    record guests {
      cores = slice_set guests.cores core (started cfg core entry arg);
      powers = slice_set guests.powers core On;
    }

-- each of these cores is off
abbrev pub all_off : List ℕ → List Power → List Power
all_off [] powers = powers
all_off (core ∷ cores) powers = all_off cores (slice_set powers core Off)

-- who calls: a core of the VM at a place, which has these cores
pub record Caller : Type 0 where
  pub vm : ℕ
  pub cores : List ℕ
  pub core : ℕ

abbrev pub caller_of : ConfigData → ℕ → ℕ → Caller
caller_of cfg v core = record { vm = v; cores = cores_of (slice_get cfg.vms v); core = core }

-- what comes of a call is carried out
abbrev pub carried : ConfigData → Caller → calls.Outcome → Guests → Guests
carried cfg caller (call.Answer value) guests = guests
carried cfg caller (call.Ring shmem event) guests =
    record guests { tables = rung cfg (is_member cfg shmem caller.vm) shmem event guests.tables }
carried cfg caller call.Off guests = record guests { powers = slice_set guests.powers caller.core Off }
carried cfg caller (call.On own entry arg) guests = turned_on cfg (slice_index caller.cores own) entry arg guests
carried cfg caller call.SystemOff guests = record guests { powers = all_off caller.cores guests.powers }

abbrev pub with_answer : ℕ → Bool → Option ℕ → Guests → Guests
with_answer core smc answer guests =
    record guests { cores = slice_set guests.cores core (answered smc answer (core_at guests.cores core)) }

-- a core of a VM has these registers, and the VM's interrupts are changed
abbrev pub worked : ℕ → ℕ → CoreData → (Interrupts → Interrupts) → Guests → Guests
worked v core registers change guests =
    record guests { cores = slice_set guests.cores core registers; tables = with_table (Some v) change guests.tables }

-- after what was left to do for a core is done
abbrev pub done : ConfigData → ℕ → Duty → Guests → Guests
done cfg core Nothing guests = guests
done cfg core (Park esr far) guests = record guests { powers = slice_set guests.powers core (Parked esr far) }
done cfg core (Call v smc outcome) guests =
    carried cfg (caller_of cfg v core) outcome (with_answer core smc (answer_of outcome) guests)
done cfg core (Emulate v access) guests =
    worked v core (after_access access (answer (guests.tables v) access.place access.width None) (core_at guests.cores core))
    (accessed access (core_at guests.cores core)) guests
done cfg core (Send v own value) guests = worked v core (advanced (core_at guests.cores core)) (sent own value) guests

-- the event of a shared memory that is rung, where one is
abbrev pub ring_of : Duty → Option (ℕ × ℕ)
ring_of Nothing = None
ring_of (Park esr far) = None
ring_of (Call v smc (call.Answer value)) = None
ring_of (Call v smc (call.Ring shmem event)) = Some (shmem, event)
ring_of (Call v smc call.Off) = None
ring_of (Call v smc (call.On own entry arg)) = None
ring_of (Call v smc call.SystemOff) = None
ring_of (Emulate v access) = None
ring_of (Send v own value) = None
