-- What sound windows give.
use Rattle.std.specs.Prelude.{◌≡◌, ℕ, ◌&&◌, ◌<◌, ◌↔◌, nat_lt, Some, is_some, length}
use Rattle.bao_config.specs.Data.{ConfigData}
use Rattle.bao_wellformed.specs.Windows.{HasSoundWindows}
use Rattle.shared_windows.specs.Windows.{HearsBy, events_of, irq_of, lists}

-- a VM has a number for an event of a shared memory exactly where it lists the memory, and that has the event
abbrev pub HeardWhereListed : Type 0
HeardWhereListed =
    (cfg : ConfigData) (v shmem event : ℕ) → HasSoundWindows cfg → shmem < length cfg.shmems
    → is_some (irq_of cfg v shmem event) ≡ lists cfg v shmem && nat_lt event (events_of cfg shmem)

-- and that number is the one of each window that it has on the memory
abbrev pub HeardByOneNumber : Type 0
HeardByOneNumber =
    (cfg : ConfigData) (v shmem event irq : ℕ) → HasSoundWindows cfg
    → (irq_of cfg v shmem event ≡ Some irq) ↔ HearsBy cfg v shmem event irq
