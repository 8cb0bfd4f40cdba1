-- The plain data of a configuration: lists in the place of the vectors that hold them. A part without a vector is its
-- own plain data.
use Rattle.std.specs.Prelude.{ℕ, Bool, List, map}
use Rattle.bao_types.specs.declared.range.ByteRange.{ByteRange}
use Rattle.bao_config.specs.declared.config.PortPlace.{PortPlace}
use Rattle.bao_config.specs.declared.config.Platform.{Platform}
use Rattle.bao_config.specs.declared.config.Shmem.{Shmem}
use Rattle.bao_config.specs.declared.config.MapRegion.{MapRegion}
use Rattle.bao_config.specs.declared.config.Dev.{Dev}
use Rattle.bao_config.specs.declared.config.Ipc.{Ipc}
use Rattle.bao_config.specs.declared.config.Vm.{Vm}

pub record PlatformData : Type 0 where
  pub banks : List ByteRange
  pub cores : List ℕ
  pub gicd : ℕ
  pub gicr : ℕ
  pub ports : List PortPlace

pub record IpcData : Type 0 where
  pub shmem : ℕ
  pub write : Bool
  pub irqs : List ℕ

-- a VM; the names are the bytes of the texts
pub record VmData : Type 0 where
  pub name : List ℕ
  pub image : List ℕ
  pub place : ByteRange
  pub start : ℕ
  pub cores : List ℕ
  pub regions : List MapRegion
  pub devs : List Dev
  pub ipcs : List IpcData
  pub guards : List ByteRange

pub record ConfigData : Type 0 where
  pub version : ℕ
  pub platform : PlatformData
  pub hyp : ByteRange
  pub shmems : List Shmem
  pub vms : List VmData

abbrev pub platform_data : Platform → PlatformData
platform_data p = record { banks = p.banks.items; cores = p.cores.items; gicd = p.gicd; gicr = p.gicr; ports = p.ports.items }

abbrev pub ipc_data : Ipc → IpcData
ipc_data c = record { shmem = c.shmem; write = c.write; irqs = c.irqs.items }

abbrev pub vm_data : Vm → VmData
vm_data vm =
    record {
      name = vm.name;
      image = vm.image;
      place = vm.place;
      start = vm.start;
      cores = vm.cores.items;
      regions = vm.regions.items;
      devs = vm.devs.items;
      ipcs = map ipc_data vm.ipcs.items;
      guards = vm.guards.items;
    }
