-- The board that a configuration asks for.
use Rattle.std.specs.Prelude.{ℕ, ◌^◌, ◌++◌, List, map, sum, Option, None, Some}
use Rattle.std.specs.List.{enumerate_from, find, flat_map}
use Rattle.bao_types.specs.declared.range.ByteRange.{ByteRange}
use Rattle.bao_types.specs.declared.shape.CorePlace.{CorePlace}
use Rattle.bao_types.specs.declared.shape.PortSpot.{PortSpot}
use Rattle.bao_types.specs.Shape.{ShapeData}
use Rattle.bao_config.specs.declared.config.PortPlace.{PortPlace}
use Rattle.bao_config.specs.Data.{ConfigData, VmData}
use Rattle.bao_wellformed.specs.Map.{owner, has_port}
use Rattle.vm_model.specs.Cores.{affinity_of}

-- a core of this many entries
abbrev pub core_place : ConfigData → ℕ → ℕ → CorePlace
core_place cfg core entries = record { entries = entries; affinity = affinity_of (owner cfg core) core }

-- a VM's cores, one bit each; none for no VM
abbrev pub core_mask : Option VmData → ℕ
core_mask None = 0
core_mask (Some vm) = sum (map (λ core. 2 ^ core) vm.cores)

-- a port, whose line reaches the cores of its VM
abbrev pub port_spot : ConfigData → PortPlace → PortSpot
port_spot cfg port =
    record { id = port.id; base = port.base; spi = port.spi; cores = core_mask (find (has_port port.id) cfg.vms) }

-- memory in use: the VMs' regions, then the shared memories
abbrev pub used_ranges : ConfigData → List ByteRange
used_ranges cfg =
    flat_map (λ vm. map (λ region. region.range) vm.regions) cfg.vms ++ map (λ shmem. shmem.range) cfg.shmems

-- The shape of the board for a configuration and this many events: its banks, cores and ports in the configuration's order, and
-- the memory in use.
abbrev pub shape_of : ConfigData → ℕ → ShapeData
shape_of cfg events =
    record {
      banks = cfg.platform.banks;
      cores = map (λ place. core_place cfg place.0 place.1) (enumerate_from 0 cfg.platform.cores);
      ports = map (port_spot cfg) cfg.platform.ports;
      used = used_ranges cfg;
      events = events;
    }
