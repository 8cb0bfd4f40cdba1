-- Samples for rows that are computed, here and in the crates above: two VMs on two cores, each with 64 KiB of memory and a
-- port, and one shared memory; and the first of them alone, with a core and its port.
use Rattle.std.specs.Prelude.{ℕ, [], ◌∷◌, codes, true}
use Rattle.bao_config.specs.declared.config.MapRegion.{MapRegion}
use Rattle.bao_config.specs.Data.{ConfigData, PlatformData, VmData, IpcData}

abbrev pub platform : PlatformData
platform =
    record {
      banks = record { base = 0; size = 0x200000 } ∷ [];
      cores = 16 ∷ 16 ∷ [];
      gicd = 0xaf000000;
      gicr = 0xaf100000;
      ports = record { id = 0; base = 0x9c090000; spi = 32 } ∷ record { id = 1; base = 0x9c0a0000; spi = 33 } ∷ [];
    }

abbrev pub window : ℕ → ℕ → IpcData
window one other = record { shmem = 0; write = true; irqs = one ∷ other ∷ [] }

abbrev pub all_access : ℕ → ℕ → MapRegion
all_access base size = record { range = record { base = base; size = size }; write = true; exec = true }

abbrev pub vm_a : VmData
vm_a =
    record {
      name = codes "a";
      image = codes "a.bin";
      place = record { base = 0x100000; size = 0x8000 };
      start = 0x100000;
      cores = 0 ∷ [];
      regions = all_access 0x100000 0x10000 ∷ [];
      devs = record { port = 0; irq = 40 } ∷ [];
      ipcs = window 50 51 ∷ [];
      guards = [];
    }

abbrev pub vm_b : VmData
vm_b =
    record {
      name = codes "b";
      image = codes "b.bin";
      place = record { base = 0x140000; size = 0x8000 };
      start = 0x140000;
      cores = 1 ∷ [];
      regions = all_access 0x140000 0x10000 ∷ [];
      devs = record { port = 1; irq = 40 } ∷ [];
      ipcs = window 60 61 ∷ [];
      guards = [];
    }

-- these two VMs, with a shared memory at this base
abbrev pub two_vms : ℕ → VmData → VmData → ConfigData
two_vms shared a b =
    record {
      version = 1;
      platform = platform;
      hyp = record { base = 0; size = 0x10000 };
      shmems = record { range = record { base = shared; size = 0x1000 }; events = 2 } ∷ [];
      vms = a ∷ b ∷ [];
    }

-- the first VM, which shares no memory, on a platform of its core and its port
abbrev pub one_vm : ConfigData
one_vm =
    record {
      version = 1;
      platform = record platform { cores = 16 ∷ []; ports = record { id = 0; base = 0x9c090000; spi = 32 } ∷ [] };
      hyp = record { base = 0; size = 0x10000 };
      shmems = [];
      vms = record vm_a { ipcs = [] } ∷ [];
    }
