-- A VM among others that the configuration keeps apart from it.
use Rattle.std.specs.Prelude.{◌≡◌, ◌≢◌, ℕ, ◌+◌, ◌%◌, ◌<◌, ◌≤◌, IsTrue, IsFalse, List, length, Some, slice_get}
use Rattle.bao_types.specs.declared.access.Access.TheVariants.{Write}
use Rattle.bao_types.specs.ByteRange.{is_within}
use Rattle.bao_config.specs.Data.{ConfigData, VmData}
use Rattle.bao_config.specs.Fits.{ConfigFits}
use Rattle.bao_wellformed.specs.Map.{kind_at, has_core, has_port, by_map}
use Rattle.bao_wellformed.specs.WellFormed.{IsWellFormed}
use Rattle.board.specs.Stage.{is_allowed}
use Rattle.board.specs.Reached.{ReachesPort}
use Rattle.vm_model.specs.Flat.{platform_places}
use Rattle.vm_model.specs.Lone.{is_core_of, is_in_window}
use Rattle.vm_model.specs.Agree.{IsInMap}

-- The VM at place v is apart from the others: its cores belong to it alone, and no other lists one of them; where a core of another
-- may store to a byte of its map, the byte is a window of it; no image of another lies over its map; its cores reach no ports but
-- its own, which no core of another reaches; and no other is given one of its ports.
pub record IsApart (cfg : ConfigData) (images : List (List ℕ)) (v : ℕ) (vm : VmData) : Type 0 where
  pub place : slice_get cfg.vms v ≡ Some vm
  pub cores : (core : ℕ) → IsTrue (has_core core vm) → IsTrue (is_core_of cfg v core)
  pub other_cores : (w : ℕ) (other : VmData) (core : ℕ) → w ≢ v → slice_get cfg.vms w ≡ Some other → IsTrue (has_core core other)
      → IsFalse (has_core core vm)
  pub stores : (core at : ℕ) → IsFalse (is_core_of cfg v core) → IsTrue (is_allowed (by_map cfg core Write at))
      → IsInMap cfg vm at → IsTrue (is_in_window cfg (Some vm) at)
  pub loads : (w : ℕ) (other : VmData) (image : List ℕ) (at : ℕ) → w ≢ v → slice_get cfg.vms w ≡ Some other
      → slice_get images w ≡ Some image → IsInMap cfg vm at
      → IsFalse (is_within (record { base = other.place.base; size = length image }) at)
  pub own_ports : (core port : ℕ) → IsTrue (is_core_of cfg v core) → ReachesPort (by_map cfg core) (platform_places cfg) port
      → IsTrue (has_port port vm)
  pub other_ports : (core port : ℕ) → IsFalse (is_core_of cfg v core) → ReachesPort (by_map cfg core) (platform_places cfg) port
      → IsFalse (has_port port vm)
  pub other_devs : (w : ℕ) (other : VmData) (port : ℕ) → w ≢ v → slice_get cfg.vms w ≡ Some other → IsTrue (has_port port other)
      → IsFalse (has_port port vm)

-- each 16 bytes from a multiple of 16 on are of one kind to the VM, as all ranges of a configuration are multiples of 64
abbrev pub IsGranular : ConfigData → VmData → Type 0
IsGranular cfg vm = (at k : ℕ) → at % 16 ≡ 0 → k < 16 → kind_at cfg vm (at + k) ≡ kind_at cfg vm at

-- an image for each VM, of at most its room
pub record FitRooms (cfg : ConfigData) (images : List (List ℕ)) : Type 0 where
  pub count : length images ≡ length cfg.vms
  pub each : (v : ℕ) (vm : VmData) (image : List ℕ) → slice_get cfg.vms v ≡ Some vm → slice_get images v ≡ Some image
      → length image ≤ vm.place.size

-- the rules of a configuration keep each of its VMs apart from the others, whatever the images are, if each fits its place
abbrev pub WellFormedApart : Type 0
WellFormedApart =
    (cfg : ConfigData) (images : List (List ℕ)) (v : ℕ) (vm : VmData) → IsWellFormed cfg → ConfigFits cfg → FitRooms cfg images
    → slice_get cfg.vms v ≡ Some vm → IsApart cfg images v vm

-- the key table alone makes the map of each VM granular
abbrev pub WellFormedGranular : Type 0
WellFormedGranular = (cfg : ConfigData) (v : ℕ) (vm : VmData) → ConfigFits cfg → slice_get cfg.vms v ≡ Some vm → IsGranular cfg vm
