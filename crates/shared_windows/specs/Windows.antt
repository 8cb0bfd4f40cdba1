-- Windows on shared memories: which VMs have one, and by which interrupt number a VM hears of an event there. That a VM
-- doesn't hear of its own ring is our own choice.
use Rattle.std.specs.Prelude.{◌≡◌, ℕ, ◌==◌, Bool, false, not, ◌&&◌, Option, Some, slice_get, option_and_then}
use Rattle.std.specs.List.{find, list_any}
use Rattle.std.specs.Option.{option_map_or}
use Rattle.bao_config.specs.Data.{ConfigData, VmData, IpcData}
use Rattle.bao_wellformed.specs.Windows.{IsWindow}

-- the window is one on this shared memory
abbrev pub is_on : ℕ → IpcData → Bool
is_on shmem window = window.shmem == shmem

-- the VM at a place, if there is one, has a window on the shared memory
abbrev pub lists : ConfigData → ℕ → ℕ → Bool
lists cfg v shmem = option_map_or (λ vm. list_any (is_on shmem) vm.ipcs) (slice_get cfg.vms v) false

-- the VMs that hear of a ring: all that list the shared memory but the caller
abbrev pub is_member : ConfigData → ℕ → ℕ → ℕ → Bool
is_member cfg shmem caller v = not (v == caller) && lists cfg v shmem

-- the number that the VM's window on the shared memory has for the event
abbrev pub irq_in : ℕ → ℕ → VmData → Option ℕ
irq_in shmem event vm = option_and_then (λ window. slice_get window.irqs event) (find (is_on shmem) vm.ipcs)

abbrev pub irq_of : ConfigData → ℕ → ℕ → ℕ → Option ℕ
irq_of cfg v shmem event = option_and_then (irq_in shmem event) (slice_get cfg.vms v)

-- how many events a shared memory has
abbrev pub events_of : ConfigData → ℕ → ℕ
events_of cfg shmem = option_map_or (λ memory. memory.events) (slice_get cfg.shmems shmem) 0

-- the same said of one window: the VM has it on the shared memory, and it has this number for the event
pub record HearsBy (cfg : ConfigData) (v shmem event irq : ℕ) : Type 0 where
  pub place : ℕ
  pub window : IpcData
  pub has : IsWindow cfg v place window
  pub on : window.shmem ≡ shmem
  pub numbered : slice_get window.irqs event ≡ Some irq
