-- What a well-formed configuration keeps of its windows on shared memories.
use Rattle.std.specs.Prelude.{◌≡◌, ◌<◌, ℕ, length, Some, slice_get}
use Rattle.bao_config.specs.declared.config.Shmem.{Shmem}
use Rattle.bao_config.specs.Data.{ConfigData, VmData, IpcData}
use Rattle.bao_wellformed.specs.WellFormed.{IsWellFormed}

-- the window stands at a place among those of the VM at a place
pub record IsWindow (cfg : ConfigData) (v place : ℕ) (window : IpcData) : Type 0 where
  pub vm : VmData
  pub is_vm : slice_get cfg.vms v ≡ Some vm
  pub has : slice_get vm.ipcs place ≡ Some window

-- each window names a shared memory, no VM has two on one, and each has an interrupt number for each event
pub record HasSoundWindows (cfg : ConfigData) : Type 0 where
  pub named : (v place : ℕ) (window : IpcData) → IsWindow cfg v place window → window.shmem < length cfg.shmems
  pub once :
      (v i j : ℕ) (one other : IpcData) → IsWindow cfg v i one → IsWindow cfg v j other → one.shmem ≡ other.shmem → i ≡ j
  pub numbered :
      (v place : ℕ) (window : IpcData) (shmem : Shmem) → IsWindow cfg v place window
      → slice_get cfg.shmems window.shmem ≡ Some shmem → length window.irqs ≡ shmem.events

abbrev pub WindowsSound : Type 0
WindowsSound = (cfg : ConfigData) → IsWellFormed cfg → HasSoundWindows cfg
