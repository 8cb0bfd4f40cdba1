-- Two VMs, each with a core, memory and a console of its own, and a window of both on one shared memory.
use Rattle.std.specs.Prelude.{ℕ, ◌≤◌, true, List, [], ◌∷◌, length}
use Rattle.bao_config.specs.Data.{ConfigData, VmData}
use Rattle.vm_model.specs.Flat.{FlatEvent, Step}

abbrev pub vm_a : VmData
vm_a =
    record {
      name = 97 ∷ [];
      image = 97 ∷ [];
      place = record { base = 0x100000; size = 0x8000 };
      start = 0x100000;
      cores = 0 ∷ [];
      regions = record { range = record { base = 0x100000; size = 0x10000 }; write = true; exec = true } ∷ [];
      devs = record { port = 0; irq = 40 } ∷ [];
      ipcs = record { shmem = 0; write = true; irqs = 50 ∷ 51 ∷ [] } ∷ [];
      guards = [];
    }

abbrev pub vm_b : VmData
vm_b =
    record {
      name = 98 ∷ [];
      image = 98 ∷ [];
      place = record { base = 0x140000; size = 0x8000 };
      start = 0x140000;
      cores = 1 ∷ [];
      regions = record { range = record { base = 0x140000; size = 0x10000 }; write = true; exec = true } ∷ [];
      devs = record { port = 1; irq = 40 } ∷ [];
      ipcs = record { shmem = 0; write = true; irqs = 60 ∷ 61 ∷ [] } ∷ [];
      guards = [];
    }

abbrev pub pair : ConfigData
pair =
    record {
      version = 1;
      platform =
          record {
            banks = record { base = 0; size = 0x200000 } ∷ [];
            cores = 16 ∷ 16 ∷ [];
            gicd = 0xaf000000;
            gicr = 0xaf100000;
            ports = record { id = 0; base = 0x9c090000; spi = 32 } ∷ record { id = 1; base = 0x9c0a0000; spi = 33 } ∷ [];
          };
      hyp = record { base = 0; size = 0x10000 };
      shmems = record { range = record { base = 0x180000; size = 0x1000 }; events = 2 } ∷ [];
      vms = vm_a ∷ vm_b ∷ [];
    }

-- the same, but VM b may also store to memory of VM a
abbrev pub overlapping : ConfigData
overlapping =
    record pair {
      vms =
          vm_a
          ∷ record vm_b {
            regions = record { range = record { base = 0x108000; size = 0x48000 }; write = true; exec = true } ∷ [];
          } ∷ [];
    }

-- images that fit their places
abbrev pub AreFit : List ℕ → List ℕ → Type 0
AreFit a b = (length a ≤ 0x8000) × (length b ≤ 0x8000)

-- for VM a: `movz x1, #0x18, lsl #16`, `movz w0, #7`, `strb w0, [x1]` to the window, `adr x2, .`, and `strb w0, [x2, #64]`
-- to memory of its own
abbrev pub storing : List ℕ
storing =
    0x01 ∷ 0x03 ∷ 0xa0 ∷ 0xd2
    ∷ 0xe0 ∷ 0x00 ∷ 0x80 ∷ 0x52
    ∷ 0x20 ∷ 0x00 ∷ 0x00 ∷ 0x39
    ∷ 0x02 ∷ 0x00 ∷ 0x00 ∷ 0x10
    ∷ 0x40 ∷ 0x00 ∷ 0x01 ∷ 0x39 ∷ []

-- for VM a: `movz x0, #1` and `movk x0, #0xc600, lsl #16`, the doorbell; `movz x2, #1`, its second event; and `hvc #0`
abbrev pub ringing : List ℕ
ringing =
    0x20 ∷ 0x00 ∷ 0x80 ∷ 0xd2
    ∷ 0x00 ∷ 0xc0 ∷ 0xb8 ∷ 0xf2
    ∷ 0x22 ∷ 0x00 ∷ 0x80 ∷ 0xd2
    ∷ 0x02 ∷ 0x00 ∷ 0x00 ∷ 0xd4 ∷ []

-- four steps of core 0
abbrev pub ring_turns : List FlatEvent
ring_turns = Step 0 0 ∷ Step 0 1 ∷ Step 0 2 ∷ Step 0 3 ∷ []

-- for VM b: `nop`
abbrev pub waiting : List ℕ
waiting = 0x1f ∷ 0x20 ∷ 0x03 ∷ 0xd5 ∷ []

-- core 0 takes three steps, core 1 one, and core 0 two more
abbrev pub turns : List FlatEvent
turns = Step 0 0 ∷ Step 0 1 ∷ Step 0 2 ∷ Step 1 3 ∷ Step 0 4 ∷ Step 0 5 ∷ []
