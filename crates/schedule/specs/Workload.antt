-- The generated workload, a choice of this project: from one number n follow a configuration of two, three or four VMs, an
-- image for each of them, and 200,000 events.
--
-- Numbers are drawn from a state of 64 bits, which begins as n. A draw multiplies it by 6364136223846793005 and adds
-- 1442695040888963407, both modulo 2^64, and gives its upper 31 bits. First come two draws for each VM, in the order of the
-- VMs, and then one for each event.
use Rattle.std.specs.Prelude.{ℕ, zero, suc, ◌+◌, ◌*◌, ◌/◌, ◌%◌, ◌^◌, ◌==◌, true, if◌then◌else◌, List, [], ◌∷◌, ◌++◌, map, flat_map, codes}
use Rattle.std.specs.List.{range_with_len}
use Rattle.std.specs.Int.{w32, to_le_bytes}
use Rattle.bao_config.specs.declared.config.PortPlace.{PortPlace}
use Rattle.bao_config.specs.Data.{ConfigData, PlatformData, VmData}
use Rattle.hypervisor.specs.declared.event.Event.{Event}
use Rattle.hypervisor.specs.declared.event.Event.TheVariants.{Step, Input}

-- the state after one more draw, and after this many draws from its beginning
abbrev pub next_state : ℕ → ℕ
next_state s = (s * 6364136223846793005 + 1442695040888963407) % 2 ^ 64

unfoldable pub state_after : ℕ → ℕ → ℕ
state_after n zero = n
state_after n (suc draws) = next_state (state_after n draws)

-- the numbers that are drawn, counted from 0
abbrev pub draws : ℕ → ℕ → ℕ
draws n k = next_state (state_after n k) / 2 ^ 33

-- how many cores there are, and ports, and VMs: 2, 3 or 4
abbrev pub core_count : ℕ → ℕ
core_count n = 2 + n % 3

-- the elements for the numbers from 0 up to a count
abbrev pub for_each_below : {A : Type 0} → ℕ → (ℕ → A) → List A
for_each_below count element = map element (range_with_len 0 count)

abbrev pub port_at : ℕ → PortPlace
port_at v = record { id = v; base = 0x9c090000 + 64 * v; spi = 32 + v }

abbrev pub platform_of : ℕ → PlatformData
platform_of count = record {
  banks = record { base = 0; size = 0x1000000 } ∷ [];
  cores = for_each_below count (λ core. 16);
  gicd = 0xaf000000;
  gicr = 0xaf100000;
  ports = for_each_below count port_at;
}

-- the names are g0, g1, .., and those of the images g0.bin, g1.bin, ..; the code of the digit 0 is 48
abbrev pub name_at : ℕ → List ℕ
name_at v = codes "g" ++ (48 + v) ∷ []

-- where the image of a VM is loaded, which is also where the VM begins
abbrev pub load_at : ℕ → ℕ
load_at v = 0x100000 * (v + 1)

abbrev pub vm_at : ℕ → VmData
vm_at v = record {
  name = name_at v;
  image = name_at v ++ codes ".bin";
  place = record { base = load_at v; size = 0x1000 };
  start = load_at v;
  cores = v ∷ [];
  regions = record { range = record { base = load_at v; size = 0x10000 }; write = true; exec = true } ∷ [];
  devs = record { port = v; irq = 40 } ∷ [];
  ipcs = [];
  guards = [];
}

abbrev pub config_of : ℕ → ConfigData
config_of count = record {
  version = 1;
  platform = platform_of count;
  hyp = record { base = 0; size = 0x10000 };
  shmems = [];
  vms = for_each_below count vm_at;
}

unfoldable pub workload_config : ℕ → ConfigData
workload_config n = config_of (core_count n)

-- The program of a VM. Word by word, it
--   0, 1  points X1 at its port
--   2     points X2 after its room
--   3     begins with the number a in X0
--   4     adds b to it
--   5     keeps bits 3 to 11 of X0 in X4
--   6     stores X0 at X2 + X4
--   7     stores the low byte of X0 at the port
--   8     goes on at word 4
abbrev pub words_with : (v a b : ℕ) → List ℕ
words_with v a b =
    0xd2b38121
    ∷ (0xf2800001 + 2048 * v)
    ∷ 0x10007fc2
    ∷ (0xd2800000 + 32 * a)
    ∷ (0x91000000 + 1024 * b)
    ∷ 0x927d2004
    ∷ 0xf8246840
    ∷ 0x39000020
    ∷ 0x17fffffc
    ∷ []

-- the bytes of these words
abbrev pub bytes_of : List ℕ → List ℕ
bytes_of words = flat_map (to_le_bytes w32) words

-- each VM takes two draws, the first for a and the second for b
abbrev pub image_at : ℕ → ℕ → List ℕ
image_at n v = bytes_of (words_with v (draws n (2 * v) % 65536) (1 + draws n (2 * v + 1) % 4095))

unfoldable pub workload_images : ℕ → List (List ℕ)
workload_images n = for_each_below (core_count n) (image_at n)

unfoldable pub event_count : ℕ
event_count = 200000

-- what the event with this number is by the number r that is drawn for it
abbrev pub event_with : (count number r : ℕ) → Event
event_with count number r =
    if r % 16 == 15 then Input (r / 16 % count) (r / 64 % 256) else Step (r / 16 % count) number

-- the draws for the events come after those for the images
abbrev pub event_at : ℕ → ℕ → Event
event_at n number = event_with (core_count n) number (draws n (2 * core_count n + number))

unfoldable pub workload_events : ℕ → List Event
workload_events n = for_each_below event_count (event_at n)
