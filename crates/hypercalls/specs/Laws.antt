-- What a call looks at, the configuration with its VM alone, the VM's own powers and the registers; and what its outcome
-- asks for.
use Rattle.std.specs.Prelude.{◌≡◌, ◌<◌, ℕ, IsTrue, List, Some, length, slice_get, ⊤}
use Rattle.bao_config.specs.Data.{ConfigData, VmData}
use Rattle.bao_wellformed.specs.Laws.{IsVm, alone}
use Rattle.shared_windows.specs.Windows.{events_of, lists}
use Rattle.hypercalls.specs.declared.power.Power.{Power}
use Rattle.hypercalls.specs.declared.power.Power.TheVariants as power
use Rattle.hypercalls.specs.declared.outcome.Outcome.{Outcome}
use Rattle.hypercalls.specs.declared.outcome.Outcome.TheVariants.{Answer, Ring, Off, On, SystemOff}
use Rattle.hypercalls.specs.Calls.{call_of}

-- two configurations that are the same but for other VMs, and for the place of this one, give the same outcome
abbrev pub LooksAtItsOwn : Type 0
LooksAtItsOwn =
    (cfg other : ConfigData) (v w : ℕ) (vm own : VmData) (powers : List Power) (regs : List ℕ)
    → IsVm cfg v vm → IsVm other w own → alone cfg vm ≡ alone other own → call_of cfg v powers regs ≡ call_of other w powers regs

-- the outcome is the one of the VM alone
abbrev pub SameAlone : Type 0
SameAlone =
    (cfg : ConfigData) (v : ℕ) (vm : VmData) (powers : List Power) (regs : List ℕ)
    → IsVm cfg v vm → call_of (alone cfg vm) 0 powers regs ≡ call_of cfg v powers regs

-- the caller lists the shared memory, which has the event
pub record IsLawfulRing (cfg : ConfigData) (v shmem event : ℕ) : Type 0 where
  pub listed : IsTrue (lists cfg v shmem)
  pub memory : shmem < length cfg.shmems
  pub in_range : event < events_of cfg shmem

-- the VM has the core, and it is off
pub record IsLawfulStart (cfg : ConfigData) (v : ℕ) (powers : List Power) (core : ℕ) : Type 0 where
  pub vm : VmData
  pub is_vm : IsVm cfg v vm
  pub own : core < length vm.cores
  pub off : slice_get powers core ≡ Some power.Off

abbrev pub IsLawful : ConfigData → ℕ → List Power → Outcome → Type 0
IsLawful cfg v powers (Answer value) = ⊤
IsLawful cfg v powers (Ring shmem event) = IsLawfulRing cfg v shmem event
IsLawful cfg v powers Off = ⊤
IsLawful cfg v powers (On core start arg) = IsLawfulStart cfg v powers core
IsLawful cfg v powers SystemOff = ⊤

-- an outcome asks for nothing that the configuration doesn't give the VM
abbrev pub OutcomesLawful : Type 0
OutcomesLawful =
    (cfg : ConfigData) (v : ℕ) (powers : List Power) (regs : List ℕ) → IsLawful cfg v powers (call_of cfg v powers regs)
