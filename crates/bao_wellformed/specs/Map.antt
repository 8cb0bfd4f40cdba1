-- What each byte of the address space is to a VM and to a core, asked byte by byte.
use Rattle.std.specs.Prelude.{ℕ, ◌==◌, Bool, true, false, if◌then◌else◌, List, ◌++◌, map, reverse, Option, None, Some, slice_get}
use Rattle.std.specs.List.{find, filter_map, list_any}
use Rattle.std.specs.Option.{option_map}
use Rattle.bao_types.specs.declared.range.ByteRange.{ByteRange}
use Rattle.bao_types.specs.ByteRange.{is_within}
use Rattle.bao_types.specs.Shape.{port_range}
use Rattle.bao_types.specs.declared.access.Class.{Class}
use Rattle.bao_types.specs.declared.access.Class.TheVariants.{Nothing, Hyp, Guest}
use Rattle.bao_types.specs.declared.access.Access.{Access}
use Rattle.bao_types.specs.declared.access.Access.TheVariants.{Read, Write, Exec}
use Rattle.bao_types.specs.declared.access.Verdict.{Verdict}
use Rattle.bao_types.specs.declared.access.Verdict.TheVariants.{Allow, Translation, Permission}
use Rattle.bao_wellformed.specs.declared.map.Kind.{Kind}
use Rattle.bao_wellformed.specs.declared.map.Kind.TheVariants.{Ram, Port, Window, Hole}
use Rattle.bao_wellformed.specs.declared.map.MapEntry.{MapEntry}
use Rattle.bao_config.specs.declared.config.MapRegion.{MapRegion}
use Rattle.bao_config.specs.declared.config.Dev.{Dev}
use Rattle.bao_config.specs.Data.{ConfigData, VmData, IpcData}

abbrev pub region_entry : MapRegion → MapEntry
region_entry region = record { range = region.range; kind = Ram region.write region.exec }

-- the first port of that id; a dev without its port has no bytes
abbrev pub dev_entry : ConfigData → Dev → Option MapEntry
dev_entry cfg dev =
    option_map (λ port. record { range = port_range port.base; kind = Port dev.port })
    (find (λ port. port.id == dev.port) cfg.platform.ports)

-- an ipc without its shared memory has no bytes
abbrev pub ipc_entry : ConfigData → IpcData → Option MapEntry
ipc_entry cfg ipc =
    option_map (λ shmem. record { range = shmem.range; kind = Window ipc.shmem ipc.write }) (slice_get cfg.shmems ipc.shmem)

abbrev pub guard_entry : ByteRange → MapEntry
guard_entry range = record { range = range; kind = Hole }

-- the map of a VM, in the order in which its entries apply
abbrev pub map_of : ConfigData → VmData → List MapEntry
map_of cfg vm =
    map region_entry vm.regions ++ filter_map (dev_entry cfg) vm.devs ++ filter_map (ipc_entry cfg) vm.ipcs
    ++ map guard_entry vm.guards

-- the kind that an entry gives, where there is one
abbrev pub kind_of : Option MapEntry → Kind
kind_of None = Hole
kind_of (Some entry) = entry.kind

-- the last entry that contains the byte decides
abbrev pub kind_at : ConfigData → VmData → ℕ → Kind
kind_at cfg vm at = kind_of (find (λ entry. is_within entry.range at) (reverse (map_of cfg vm)))

-- what a guest may do with a byte of this kind
abbrev pub grant : Kind → Class
grant (Ram write exec) = Guest write exec false
grant (Port id) = Guest true false true
grant (Window shmem write) = Guest write false false
grant Hole = Nothing

-- the VM that has this physical core among its own: the first of them
abbrev pub has_core : ℕ → VmData → Bool
has_core core vm = list_any (λ own. own == core) vm.cores

-- the VM is given this port
abbrev pub has_port : ℕ → VmData → Bool
has_port port vm = list_any (λ dev. dev.port == port) vm.devs

abbrev pub owner : ConfigData → ℕ → Option VmData
owner cfg core = find (has_core core) cfg.vms

abbrev pub guest_class : ConfigData → Option VmData → ℕ → Class
guest_class cfg None at = Nothing
guest_class cfg (Some vm) at = grant (kind_at cfg vm at)

-- what a core may do with a byte: the hypervisor's range is its own for every core
abbrev pub class_of : ConfigData → ℕ → ℕ → Class
class_of cfg core at = if is_within cfg.hyp at then Hyp else guest_class cfg (owner cfg core) at

abbrev pub allow_if : Bool → Verdict
allow_if allowed = if allowed then Allow else Permission

-- what the class of a byte says of an access to it
abbrev pub verdict_of : Class → Access → Verdict
verdict_of Nothing access = Translation
verdict_of Hyp access = Permission
verdict_of (Guest write exec port) Read = Allow
verdict_of (Guest write exec port) Write = allow_if write
verdict_of (Guest write exec port) Exec = allow_if exec

-- the verdict of the second stage by the map, for a core: on each access to each byte
unfoldable pub by_map : ConfigData → ℕ → Access → ℕ → Verdict
by_map cfg core access at = verdict_of (class_of cfg core at) access
