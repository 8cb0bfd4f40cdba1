-- The key table of a configuration: each key with its row, in the order in which faults are looked for.
use Rattle.std.specs.Prelude.{ℕ, codes}
use Rattle.bao_config.specs.Bounds.{version, base, size, entries, frame, port_id, port_base, interrupt, events, instruction, core, shared}
use Rattle.bao_config.specs.Row as row
use Rattle.bao_config.specs.Faults.{Item, number, text, list, keyed, Keys, no_keys, required, optional, in_i, in_j, in_k}
use Rattle.bao_config.specs.Texts.{is_name, is_file_name, is_region_access, is_window_access}

-- a range, whose base and size stand at these rows
unfoldable pub range : ℕ → ℕ → Item
range base_row size_row = keyed
    (required base_row (codes "base") (number base)
    (required size_row (codes "size") (number size)
    no_keys))

unfoldable pub port : Item
port = keyed
    (required row.port_id (codes "id") (number port_id)
    (required row.port_base (codes "base") (number port_base)
    (required row.port_spi (codes "spi") (number interrupt)
    no_keys)))

unfoldable pub banks : Item
banks = list 1 8 row.bank in_i (range row.bank_base row.bank_size)

unfoldable pub platform_cores : Item
platform_cores = list 1 8 row.platform_core in_i (number entries)

unfoldable pub ports : Item
ports = list 0 16 row.port in_i port

unfoldable pub platform : Item
platform = keyed
    (required row.banks (codes "banks") banks
    (required row.platform_cores (codes "cores") platform_cores
    (required row.gicd (codes "gicd") (number frame)
    (required row.gicr (codes "gicr") (number frame)
    (optional row.ports (codes "ports") ports
    no_keys)))))

unfoldable pub shmem : Item
shmem = keyed
    (required row.shmem_base (codes "base") (number base)
    (required row.shmem_size (codes "size") (number size)
    (required row.shmem_events (codes "events") (number events)
    no_keys)))

unfoldable pub shmems : Item
shmems = list 0 8 row.shmem in_i shmem

unfoldable pub vm_cores : Item
vm_cores = list 1 8 row.vm_core in_j (number core)

unfoldable pub region : Item
region = keyed
    (required row.region_base (codes "base") (number base)
    (required row.region_size (codes "size") (number size)
    (required row.region_access (codes "access") (text is_region_access)
    no_keys)))

unfoldable pub regions : Item
regions = list 1 16 row.region in_j region

unfoldable pub dev : Item
dev = keyed
    (required row.dev_port (codes "port") (number port_id)
    (required row.dev_irq (codes "irq") (number interrupt)
    no_keys))

unfoldable pub devs : Item
devs = list 0 16 row.dev in_j dev

unfoldable pub irqs : Item
irqs = list 1 8 row.irq in_k (number interrupt)

unfoldable pub ipc : Item
ipc = keyed
    (required row.ipc_shmem (codes "shmem") (number shared)
    (required row.ipc_access (codes "access") (text is_window_access)
    (required row.irqs (codes "irqs") irqs
    no_keys)))

unfoldable pub ipcs : Item
ipcs = list 0 8 row.ipc in_j ipc

unfoldable pub guards : Item
guards = list 0 16 row.guard in_j (range row.guard_base row.guard_size)

unfoldable pub vm : Item
vm = keyed
    (required row.vm_name (codes "name") (text is_name)
    (required row.vm_image (codes "image") (text is_file_name)
    (required row.vm_load (codes "load") (number base)
    (required row.vm_room (codes "room") (number size)
    (required row.vm_entry (codes "entry") (number instruction)
    (required row.vm_cores (codes "cores") vm_cores
    (required row.regions (codes "regions") regions
    (optional row.devs (codes "devs") devs
    (optional row.ipcs (codes "ipcs") ipcs
    (optional row.guards (codes "guards") guards
    no_keys))))))))))

unfoldable pub vms : Item
vms = list 1 8 row.vm in_i vm

-- row 1: the document
unfoldable pub document : Keys
document =
    required row.version (codes "version") (number version)
    (required row.platform (codes "platform") platform
    (required row.hypervisor (codes "hypervisor") (range row.hypervisor_base row.hypervisor_size)
    (optional row.shmems (codes "shmem") shmems
    (required row.vms (codes "vm") vms
    no_keys))))
