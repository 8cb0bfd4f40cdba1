-- The boot of all VMs: what it is given, and how it leaves the board.
use Rattle.std.specs.Prelude.{◌≡◌, ℕ, zero, suc, List, length, map, slice_get, Option, None, Some}
use Rattle.bao_types.specs.declared.region.Region.{Region}
use Rattle.bao_config.specs.Data.{ConfigData, VmData}
use Rattle.bao_wellformed.specs.Map.{class_of}
use Rattle.board.specs.Machine.{Machine, fitted_with}
use Rattle.mpu_packer.specs.declared.entries.Plan.{Plan}
use Rattle.mpu_packer.specs.Packing.{Realises}
use Rattle.mpu_packer.specs.Plan.{IsPacking}
use Rattle.vm_model.specs.Boot.{boot_bytes, boot_cores}
use Rattle.vm_model.specs.Cores.{virtual_core}
use Rattle.hypervisor.specs.Shape.{shape_of}
use Rattle.hypervisor.specs.Packed.{all_filled}

-- the board is as it was fitted with the configuration's shape, for its number of events
abbrev pub IsFresh : ConfigData → Machine → Type 0
IsFresh cfg m = m ≡ fitted_with (shape_of cfg m.shape.events) m

-- the packing of a core, which realises its map
pub record IsPlanOf (cfg : ConfigData) (core : ℕ) (plan : Plan) : Type 0 where
  pub packing : IsPacking cfg core plan
  pub realises : Realises plan.entries.items (class_of cfg core)

-- the packings of the platform's cores, in their order
pub record ArePlans (cfg : ConfigData) (plans : List Plan) : Type 0 where
  pub count : length plans ≡ length cfg.platform.cores
  pub each : (core : ℕ) (plan : Plan) → slice_get plans core ≡ Some plan → IsPlanOf cfg core plan

-- the entries of the plans
abbrev pub packings_of : List Plan → List (List Region)
packings_of plans = map (λ plan. plan.entries.items) plans

-- where the core with this virtual number begins
abbrev pub start_of_vm : VmData → Option ℕ → Option ℕ
start_of_vm vm None = None
start_of_vm vm (Some zero) = Some vm.start
start_of_vm vm (Some (suc j)) = None

-- where a core begins, if it is the first of its VM
abbrev pub start_of : Option VmData → ℕ → Option ℕ
start_of None core = None
start_of (Some vm) core = start_of_vm vm (virtual_core vm core)

-- all is loaded and set: the images, the entries, and the cores, of which the first of each VM is about to run
abbrev pub booted : ConfigData → List (List Region) → List (List ℕ) → Machine → Machine
booted cfg packings images m =
    record m { bytes = boot_bytes cfg.vms images; cores = boot_cores cfg; entries = all_filled cfg.platform.cores packings }
