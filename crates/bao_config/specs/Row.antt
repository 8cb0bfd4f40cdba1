-- The rows of the key table by name, in their order. A row `banks` is the array, and `bank` one item of it. The numbers
-- are those of `docs/configuration.md`.
use Rattle.std.specs.Prelude.{ℕ}

abbrev pub document : ℕ
document = 1

abbrev pub version : ℕ
version = 2

abbrev pub platform : ℕ
platform = 3

abbrev pub banks : ℕ
banks = 4

abbrev pub bank : ℕ
bank = 5

abbrev pub bank_base : ℕ
bank_base = 6

abbrev pub bank_size : ℕ
bank_size = 7

abbrev pub platform_cores : ℕ
platform_cores = 8

abbrev pub platform_core : ℕ
platform_core = 9

abbrev pub gicd : ℕ
gicd = 10

abbrev pub gicr : ℕ
gicr = 11

abbrev pub ports : ℕ
ports = 12

abbrev pub port : ℕ
port = 13

abbrev pub port_id : ℕ
port_id = 14

abbrev pub port_base : ℕ
port_base = 15

abbrev pub port_spi : ℕ
port_spi = 16

abbrev pub hypervisor : ℕ
hypervisor = 17

abbrev pub hypervisor_base : ℕ
hypervisor_base = 18

abbrev pub hypervisor_size : ℕ
hypervisor_size = 19

abbrev pub shmems : ℕ
shmems = 20

abbrev pub shmem : ℕ
shmem = 21

abbrev pub shmem_base : ℕ
shmem_base = 22

abbrev pub shmem_size : ℕ
shmem_size = 23

abbrev pub shmem_events : ℕ
shmem_events = 24

abbrev pub vms : ℕ
vms = 25

abbrev pub vm : ℕ
vm = 26

abbrev pub vm_name : ℕ
vm_name = 27

abbrev pub vm_image : ℕ
vm_image = 28

abbrev pub vm_load : ℕ
vm_load = 29

abbrev pub vm_room : ℕ
vm_room = 30

abbrev pub vm_entry : ℕ
vm_entry = 31

abbrev pub vm_cores : ℕ
vm_cores = 32

abbrev pub vm_core : ℕ
vm_core = 33

abbrev pub regions : ℕ
regions = 34

abbrev pub region : ℕ
region = 35

abbrev pub region_base : ℕ
region_base = 36

abbrev pub region_size : ℕ
region_size = 37

abbrev pub region_access : ℕ
region_access = 38

abbrev pub devs : ℕ
devs = 39

abbrev pub dev : ℕ
dev = 40

abbrev pub dev_port : ℕ
dev_port = 41

abbrev pub dev_irq : ℕ
dev_irq = 42

abbrev pub ipcs : ℕ
ipcs = 43

abbrev pub ipc : ℕ
ipc = 44

abbrev pub ipc_shmem : ℕ
ipc_shmem = 45

abbrev pub ipc_access : ℕ
ipc_access = 46

abbrev pub irqs : ℕ
irqs = 47

abbrev pub irq : ℕ
irq = 48

abbrev pub guards : ℕ
guards = 49

abbrev pub guard : ℕ
guard = 50

abbrev pub guard_base : ℕ
guard_base = 51

abbrev pub guard_size : ℕ
guard_size = 52
