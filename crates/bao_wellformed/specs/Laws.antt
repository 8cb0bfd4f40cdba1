-- What a well-formed configuration promises, in terms of its data and of the maps of its VMs.
use Rattle.std.specs.Prelude.{◌≡◌, ◌≢◌, ℕ, ◌+◌, ◌%◌, ◌<◌, ◌≤◌, Bool, true, false, IsTrue, List, All, Option, Some, None, length, slice_get, ◌⊎◌, IsFalse, [], ◌∷◌}
use Rattle.std.specs.List.{position_from}
use Rattle.bao_types.specs.declared.range.ByteRange.{ByteRange}
use Rattle.bao_types.specs.ByteRange.{address_space_end, end, is_within}
use Rattle.bao_config.specs.Data.{ConfigData, VmData}
use Rattle.bao_config.specs.Fits.{ConfigFits}
use Rattle.bao_wellformed.specs.declared.map.MapEntry.{MapEntry}
use Rattle.bao_wellformed.specs.Map.{map_of, kind_at, has_core, has_port}
use Rattle.bao_wellformed.specs.Rules.{distributor, redistributors}
use Rattle.bao_wellformed.specs.ByteRules.{least_lacking, least_clash, is_lacking, is_clash, is_ram, is_present, first_instruction, kind_in, shmem_of}
use Rattle.bao_wellformed.specs.WellFormed.{IsWellFormed}

-- the byte passes, and none below it does; without a byte none passes at all
abbrev pub IsLeast : (ℕ → Bool) → Option ℕ → Type 0
IsLeast test None = (at : ℕ) → test at ≡ false
IsLeast test (Some least) = (test least ≡ true) × ((at : ℕ) → at < least → test at ≡ false)

-- the VM at this place
abbrev pub IsVm : ConfigData → ℕ → VmData → Type 0
IsVm cfg v vm = slice_get cfg.vms v ≡ Some vm

-- a byte that two VMs both have is a window of both on one shared memory
abbrev pub MapsApart : Type 0
MapsApart =
    (cfg : ConfigData) (v w : ℕ) (vm other : VmData) (at : ℕ) → IsWellFormed cfg → v ≢ w → IsVm cfg v vm → IsVm cfg w other
    → IsTrue (is_present (kind_at cfg vm at)) → IsTrue (is_present (kind_at cfg other at))
    → (shmem : ℕ) × (shmem_of (kind_at cfg vm at) ≡ Some shmem) × (shmem_of (kind_at cfg other at) ≡ Some shmem)

-- a core is one VM's at most, and that VM is its owner
abbrev pub CoresApart : Type 0
CoresApart =
    (cfg : ConfigData) (v w : ℕ) (vm other : VmData) (core : ℕ) → IsWellFormed cfg → IsVm cfg v vm → IsVm cfg w other
    → IsTrue (has_core core vm) → IsTrue (has_core core other) → v ≡ w

abbrev pub CoresOwned : Type 0
CoresOwned =
    (cfg : ConfigData) (v : ℕ) (vm : VmData) (core : ℕ) → IsWellFormed cfg → IsVm cfg v vm → IsTrue (has_core core vm)
    → position_from (has_core core) 0 cfg.vms ≡ Some v

-- each core of a VM is one of the platform's
abbrev pub CoresOfPlatform : Type 0
CoresOfPlatform =
    (cfg : ConfigData) (v : ℕ) (vm : VmData) → IsWellFormed cfg → IsVm cfg v vm
    → All (λ core. core < length cfg.platform.cores) vm.cores

-- a port is one VM's at most
abbrev pub PortsApart : Type 0
PortsApart =
    (cfg : ConfigData) (v w : ℕ) (vm other : VmData) (port : ℕ) → IsWellFormed cfg → IsVm cfg v vm → IsVm cfg w other
    → IsTrue (has_port port vm) → IsTrue (has_port port other) → v ≡ w

-- the place of a VM is memory of its own, and its first instruction is memory that it may execute
abbrev pub PlacesOwn : Type 0
PlacesOwn =
    (cfg : ConfigData) (v : ℕ) (vm : VmData) (at : ℕ) → IsWellFormed cfg → IsVm cfg v vm → IsTrue (is_within vm.place at)
    → IsTrue (is_ram false (kind_at cfg vm at))

abbrev pub StartsExecutable : Type 0
StartsExecutable =
    (cfg : ConfigData) (v : ℕ) (vm : VmData) (at : ℕ) → IsWellFormed cfg → IsVm cfg v vm → IsTrue (is_within (first_instruction vm) at)
    → IsTrue (is_ram true (kind_at cfg vm at))

-- a VM's bytes from a multiple of 64 up to the next are of one kind
abbrev pub MapsGranular : Type 0
MapsGranular =
    (cfg : ConfigData) (v : ℕ) (vm : VmData) (at k : ℕ) → ConfigFits cfg → IsVm cfg v vm → at % 64 ≡ 0 → k < 64
    → kind_at cfg vm (at + k) ≡ kind_at cfg vm at

-- each entry of a map ends at or below 2^48, and so does the hypervisor's range
abbrev pub MapsInSpace : Type 0
MapsInSpace =
    (cfg : ConfigData) (v : ℕ) (vm : VmData) → IsWellFormed cfg → IsVm cfg v vm
    → All (λ entry. end entry.range ≤ address_space_end) (map_of cfg vm)

abbrev pub HypervisorInSpace : Type 0
HypervisorInSpace = (cfg : ConfigData) → IsWellFormed cfg → end cfg.hyp ≤ address_space_end

-- no byte of the hypervisor's range is in a map, and none of an emulated frame of the interrupt controller
abbrev pub HypervisorAbsent : Type 0
HypervisorAbsent =
    (cfg : ConfigData) (v : ℕ) (vm : VmData) (at : ℕ) → IsWellFormed cfg → IsVm cfg v vm → IsTrue (is_within cfg.hyp at)
    → IsFalse (is_present (kind_at cfg vm at))

abbrev pub FramesAbsent : Type 0
FramesAbsent =
    (cfg : ConfigData) (v : ℕ) (vm : VmData) (at : ℕ) → IsWellFormed cfg → IsVm cfg v vm
    → IsTrue (is_within (distributor cfg) at) ⊎ IsTrue (is_within (redistributors cfg) at) → IsFalse (is_present (kind_at cfg vm at))

-- the configuration with one VM of a well-formed one as its only one is well formed
abbrev pub alone : ConfigData → VmData → ConfigData
alone cfg vm = record cfg { vms = vm ∷ [] }

abbrev pub AloneWellFormed : Type 0
AloneWellFormed = (cfg : ConfigData) (v : ℕ) (vm : VmData) → IsWellFormed cfg → IsVm cfg v vm → IsWellFormed (alone cfg vm)

-- the bytes that rules 20 to 22 name are the least of all
abbrev pub LackingLeast : Type 0
LackingLeast =
    (executable : Bool) (range : ByteRange) (entries : List MapEntry)
    → IsLeast (is_lacking executable range entries) (least_lacking executable range entries)

abbrev pub ClashLeast : Type 0
ClashLeast =
    (ones others : List MapEntry) → IsLeast (λ at. is_clash (kind_in ones at) (kind_in others at)) (least_clash ones others)
