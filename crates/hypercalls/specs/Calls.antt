-- What comes of a VM's call by HVC or SMC with immediate 0: an equation a service. Ids, errors and answers of CPU_OFF, CPU_ON,
-- AFFINITY_INFO, SYSTEM_OFF and PSCI_VERSION are PSCI's (Arm DEN 0022). Our own choice is the doorbell, that a core goes by
-- its virtual number, and that a parked core is one that is on.
use Rattle.std.specs.Prelude.{ℕ, ◌-◌, ◌^◌, ◌%◌, ◌==◌, nat_lt, if◌then◌else◌, List, [], ◌∷◌, length, Option, None, Some, slice_get, slice_index_or}
use Rattle.std.specs.List.{find}
use Rattle.bao_config.specs.Data.{ConfigData, VmData, IpcData}
use Rattle.shared_windows.specs.Windows.{events_of}
use Rattle.hypercalls.specs.declared.power.Power.{Power}
use Rattle.hypercalls.specs.declared.power.Power.TheVariants as power
use Rattle.hypercalls.specs.declared.service.Service.{Service}
use Rattle.hypercalls.specs.declared.service.Service.TheVariants.{Ring, Version, CpuOff, CpuOn, AffinityInfo, SystemOff}
use Rattle.hypercalls.specs.declared.outcome.Outcome.{Outcome}
use Rattle.hypercalls.specs.declared.outcome.Outcome.TheVariants as outcome

-- the services with their ids
abbrev pub id_of : Service → ℕ
id_of Ring = 0xc6000001
id_of Version = 0x84000000
id_of CpuOff = 0x84000002
id_of CpuOn = 0xc4000003
id_of AffinityInfo = 0xc4000004
id_of SystemOff = 0x84000008

abbrev pub services : List Service
services = Ring ∷ Version ∷ CpuOff ∷ CpuOn ∷ AffinityInfo ∷ SystemOff ∷ []

abbrev pub service_of : ℕ → Option Service
service_of id = find (λ service. id_of service == id) services

-- a negative number as 64-bit two's complement
abbrev pub negative : ℕ → ℕ
negative n = 2 ^ 64 - n

-- answers
abbrev pub success : ℕ
success = 0

abbrev pub not_supported : ℕ
not_supported = negative 1

abbrev pub invalid_parameters : ℕ
invalid_parameters = negative 2

abbrev pub already_on : ℕ
already_on = negative 4

-- version 1.0: the major version in bits 31 to 16, the minor one below
abbrev pub version : ℕ
version = 0x10000

-- the power of the VM's core of this number, where it has one; the powers are by virtual core
abbrev pub power_in : VmData → List Power → ℕ → Option Power
power_in vm powers core = if nat_lt core (length vm.cores) then slice_get powers core else None

-- a ring of an event of the shared memory that a window is on
abbrev pub doorbell : ConfigData → Option IpcData → ℕ → Outcome
doorbell cfg None event = outcome.Answer invalid_parameters
doorbell cfg (Some window) event =
    if nat_lt event (events_of cfg window.shmem)
    then outcome.Ring window.shmem event
    else outcome.Answer invalid_parameters

-- turning on the core of this number, which has this power
abbrev pub cpu_on : Option Power → ℕ → ℕ → ℕ → Outcome
cpu_on None core start arg = outcome.Answer invalid_parameters
cpu_on (Some power.On) core start arg = outcome.Answer already_on
cpu_on (Some power.Off) core start arg = outcome.On core start arg
cpu_on (Some (power.Parked esr far)) core start arg = outcome.Answer already_on

-- what is told of a core with this power: OFF is 1, ON is 0
abbrev pub told_of : Power → ℕ
told_of power.On = 0
told_of power.Off = 1
told_of (power.Parked esr far) = 0

-- there is affinity level 0 alone
abbrev pub affinity_info : Option Power → ℕ → Outcome
affinity_info None level = outcome.Answer invalid_parameters
affinity_info (Some power) level =
    if level == 0 then outcome.Answer (told_of power) else outcome.Answer invalid_parameters

-- a register of a call, by its number
abbrev pub x_in : List ℕ → ℕ → ℕ
x_in regs n = slice_index_or regs n 0

-- what comes of a service that is asked for with these registers
abbrev pub outcome_of : ConfigData → VmData → List Power → Option Service → List ℕ → Outcome
outcome_of cfg vm powers (Some Ring) regs = doorbell cfg (slice_get vm.ipcs (x_in regs 1)) (x_in regs 2)
outcome_of cfg vm powers (Some Version) regs = outcome.Answer version
outcome_of cfg vm powers (Some CpuOff) regs = outcome.Off
outcome_of cfg vm powers (Some CpuOn) regs = cpu_on (power_in vm powers (x_in regs 1)) (x_in regs 1) (x_in regs 2) (x_in regs 3)
outcome_of cfg vm powers (Some AffinityInfo) regs = affinity_info (power_in vm powers (x_in regs 1)) (x_in regs 2)
outcome_of cfg vm powers (Some SystemOff) regs = outcome.SystemOff
outcome_of cfg vm powers None regs = outcome.Answer not_supported

-- the same of the registers alone, of which x0 names the service by its low 32 bits
abbrev pub call_in : ConfigData → Option VmData → List Power → List ℕ → Outcome
call_in cfg None powers regs = outcome.Answer not_supported
call_in cfg (Some vm) powers regs = outcome_of cfg vm powers (service_of (x_in regs 0 % 2 ^ 32)) regs

-- a call of the VM at a place
abbrev pub call_of : ConfigData → ℕ → List Power → List ℕ → Outcome
call_of cfg v powers regs = call_in cfg (slice_get cfg.vms v) powers regs

-- what x0 becomes, unless the calling core is off
abbrev pub answer_of : Outcome → Option ℕ
answer_of (outcome.Answer value) = Some value
answer_of (outcome.Ring shmem event) = Some success
answer_of outcome.Off = None
answer_of (outcome.On core start arg) = Some success
answer_of outcome.SystemOff = None
