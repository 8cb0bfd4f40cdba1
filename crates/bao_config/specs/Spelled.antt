-- The records that the tables of a configuration spell, where they have no faults.
use Rattle.std.specs.Prelude.{ℕ, ℤ, pos, negsuc, Bool, List, [], ◌∷◌, Option, Some, codes, option_and_then, unwrap_or}
use Rattle.toml.specs.Data.{Data, Items, no_items, item, Members, no_members, get_member, as_integer, as_str, as_array, as_table}
use Rattle.bao_types.specs.declared.range.ByteRange.{ByteRange}
use Rattle.bao_config.specs.declared.config.PortPlace.{PortPlace}
use Rattle.bao_config.specs.declared.config.Shmem.{Shmem}
use Rattle.bao_config.specs.declared.config.MapRegion.{MapRegion}
use Rattle.bao_config.specs.declared.config.Dev.{Dev}
use Rattle.bao_config.specs.Data.{PlatformData, IpcData, VmData, ConfigData}
use Rattle.bao_config.specs.Faults.{is_one_of}

-- an integer that isn't negative
abbrev pub magnitude : ℤ → ℕ
magnitude (pos n) = n
magnitude (negsuc n) = 0

-- the number, the text, the items and the keys that stand there; 0, the empty text, no items and no keys where nothing
-- of the kind does
abbrev pub number_of : Option Data → ℕ
number_of d = magnitude (unwrap_or (option_and_then as_integer d) (pos 0))

abbrev pub text_of : Option Data → List ℕ
text_of d = unwrap_or (option_and_then as_str d) []

abbrev pub items_of : Option Data → Items
items_of d = unwrap_or (option_and_then as_array d) no_items

abbrev pub keys_of : Option Data → Members
keys_of d = unwrap_or (option_and_then as_table d) no_members

-- the record of each item
abbrev pub each_of : {Y : Type 0} → (Data → Y) → Items → List Y
each_of record_of no_items = []
each_of record_of (item d ds) = record_of d ∷ each_of record_of ds

-- what a word of access gives beside reading
abbrev pub may_write : List ℕ → Bool
may_write = is_one_of (codes "rw" ∷ codes "rwx" ∷ [])

abbrev pub may_execute : List ℕ → Bool
may_execute = is_one_of (codes "rx" ∷ codes "rwx" ∷ [])

-- both: writing, then executing
abbrev pub rights_of : List ℕ → Bool × Bool
rights_of word = (may_write word, may_execute word)

abbrev pub range_of : Members → ByteRange
range_of ms = record { base = number_of (get_member (codes "base") ms); size = number_of (get_member (codes "size") ms) }

abbrev pub port_of : Members → PortPlace
port_of ms =
    record {
      id = number_of (get_member (codes "id") ms);
      base = number_of (get_member (codes "base") ms);
      spi = number_of (get_member (codes "spi") ms);
    }

-- the numbers and the tables of an array, each as its record
abbrev pub numbers_of : Option Data → List ℕ
numbers_of d = each_of (λ e. number_of (Some e)) (items_of d)

abbrev pub tables_of : {Y : Type 0} → (Members → Y) → Option Data → List Y
tables_of record_of d = each_of (λ e. record_of (keys_of (Some e))) (items_of d)

abbrev pub platform_of : Members → PlatformData
platform_of ms =
    record {
      banks = tables_of range_of (get_member (codes "banks") ms);
      cores = numbers_of (get_member (codes "cores") ms);
      gicd = number_of (get_member (codes "gicd") ms);
      gicr = number_of (get_member (codes "gicr") ms);
      ports = tables_of port_of (get_member (codes "ports") ms);
    }

abbrev pub shmem_of : Members → Shmem
shmem_of ms = record { range = range_of ms; events = number_of (get_member (codes "events") ms) }

abbrev pub region_of : Members → MapRegion
region_of ms =
    record {
      range = range_of ms;
      write = may_write (text_of (get_member (codes "access") ms));
      exec = may_execute (text_of (get_member (codes "access") ms));
    }

abbrev pub dev_of : Members → Dev
dev_of ms = record { port = number_of (get_member (codes "port") ms); irq = number_of (get_member (codes "irq") ms) }

abbrev pub ipc_of : Members → IpcData
ipc_of ms =
    record {
      shmem = number_of (get_member (codes "shmem") ms);
      write = may_write (text_of (get_member (codes "access") ms));
      irqs = numbers_of (get_member (codes "irqs") ms);
    }

abbrev pub vm_of : Members → VmData
vm_of ms =
    record {
      name = text_of (get_member (codes "name") ms);
      image = text_of (get_member (codes "image") ms);
      place = record { base = number_of (get_member (codes "load") ms); size = number_of (get_member (codes "room") ms) };
      start = number_of (get_member (codes "entry") ms);
      cores = numbers_of (get_member (codes "cores") ms);
      regions = tables_of region_of (get_member (codes "regions") ms);
      devs = tables_of dev_of (get_member (codes "devs") ms);
      ipcs = tables_of ipc_of (get_member (codes "ipcs") ms);
      guards = tables_of range_of (get_member (codes "guards") ms);
    }

-- the configuration that a document spells
abbrev pub config_of : Members → ConfigData
config_of ms =
    record {
      version = number_of (get_member (codes "version") ms);
      platform = platform_of (keys_of (get_member (codes "platform") ms));
      hyp = range_of (keys_of (get_member (codes "hypervisor") ms));
      shmems = tables_of shmem_of (get_member (codes "shmem") ms);
      vms = tables_of vm_of (get_member (codes "vm") ms);
    }
