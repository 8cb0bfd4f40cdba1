-- What every configuration keeps: each of its numbers, texts and lists is one that the key table allows.
use Rattle.std.specs.Prelude.{ℕ, ◌≤◌, IsTrue, List, length, All}
use Rattle.bao_types.specs.declared.range.ByteRange.{ByteRange}
use Rattle.bao_config.specs.declared.config.PortPlace.{PortPlace}
use Rattle.bao_config.specs.declared.config.Shmem.{Shmem}
use Rattle.bao_config.specs.declared.config.MapRegion.{MapRegion}
use Rattle.bao_config.specs.declared.config.Dev.{Dev}
use Rattle.bao_config.specs.Bounds.{IsInBounds, version, base, size, entries, frame, port_id, port_base, interrupt, events, instruction, core, shared}
use Rattle.bao_config.specs.Texts.{is_name, is_file_name}
use Rattle.bao_config.specs.Data.{PlatformData, IpcData, VmData, ConfigData}

-- a list of at least and at most this many elements, of which each fits
pub record ListFits {X : Type 0} (least most : ℕ) (Fits : X → Type 0) (xs : List X) : Type 0 where
  pub long_enough : least ≤ length xs
  pub short_enough : length xs ≤ most
  pub each : All Fits xs

pub record RangeFits (range : ByteRange) : Type 0 where
  pub base : IsInBounds base range.base
  pub size : IsInBounds size range.size

pub record PortFits (port : PortPlace) : Type 0 where
  pub id : IsInBounds port_id port.id
  pub base : IsInBounds port_base port.base
  pub spi : IsInBounds interrupt port.spi

pub record PlatformFits (platform : PlatformData) : Type 0 where
  pub banks : ListFits 1 8 RangeFits platform.banks
  pub cores : ListFits 1 8 (IsInBounds entries) platform.cores
  pub gicd : IsInBounds frame platform.gicd
  pub gicr : IsInBounds frame platform.gicr
  pub ports : ListFits 0 16 PortFits platform.ports

pub record ShmemFits (shmem : Shmem) : Type 0 where
  pub range : RangeFits shmem.range
  pub events : IsInBounds events shmem.events

pub record RegionFits (region : MapRegion) : Type 0 where
  pub range : RangeFits region.range

pub record DevFits (dev : Dev) : Type 0 where
  pub port : IsInBounds port_id dev.port
  pub irq : IsInBounds interrupt dev.irq

pub record IpcFits (ipc : IpcData) : Type 0 where
  pub shmem : IsInBounds shared ipc.shmem
  pub irqs : ListFits 1 8 (IsInBounds interrupt) ipc.irqs

pub record VmFits (vm : VmData) : Type 0 where
  pub name : IsTrue (is_name vm.name)
  pub image : IsTrue (is_file_name vm.image)
  pub place : RangeFits vm.place
  pub start : IsInBounds instruction vm.start
  pub cores : ListFits 1 8 (IsInBounds core) vm.cores
  pub regions : ListFits 1 16 RegionFits vm.regions
  pub devs : ListFits 0 16 DevFits vm.devs
  pub ipcs : ListFits 0 8 IpcFits vm.ipcs
  pub guards : ListFits 0 16 RangeFits vm.guards

pub record ConfigFits (config : ConfigData) : Type 0 where
  pub version : IsInBounds version config.version
  pub platform : PlatformFits config.platform
  pub hyp : RangeFits config.hyp
  pub shmems : ListFits 0 8 ShmemFits config.shmems
  pub vms : ListFits 1 8 VmFits config.vms
