-- The definitions at whole documents, computed.
use Rattle.std.proofs.Common.{◌≡◌, codes, pos, Ok, Err, refl}
use Rattle.bao_config.specs.declared.error.ConfigError.TheVariants.{BadToml, BadShape, BadValue}
use Rattle.bao_config.specs.Answer.{spelled}
use Rattle.bao_config.specs.Sample.{one_vm, two_vms, vm_a, vm_b}
use Rattle.bao_config.proofs.OnLiterals.{config_on_literals}

empty_document : spelled (codes "") ≡ Err (BadShape (record { row = 2; i = 0; j = 0; k = 0 }))
unfolding config_on_literals
empty_document = refl

no_value : spelled (codes "version =") ≡ Err BadToml
unfolding config_on_literals
no_value = refl

other_version : spelled (codes "version = 2\nwidth = 1\n") ≡ Err (BadValue (record { row = 2; i = 0; j = 0; k = 0 }) (pos 2))
unfolding config_on_literals
other_version = refl

spelled_one_vm : spelled (codes "version = 1\n[platform]\nbanks = [{ base = 0x0, size = 0x200000 }]\ncores = [16]\ngicd = 0xaf000000\ngicr = 0xaf100000\nports = [{ id = 0, base = 0x9c090000, spi = 32 }]\n[hypervisor]\nbase = 0x0\nsize = 0x10000\n[[vm]]\nname = \"a\"\nimage = \"a.bin\"\nload = 0x100000\nroom = 0x8000\nentry = 0x100000\ncores = [0]\nregions = [{ base = 0x100000, size = 0x10000, access = \"rwx\" }]\ndevs = [{ port = 0, irq = 40 }]\n") ≡ Ok one_vm
unfolding config_on_literals
spelled_one_vm = refl

spelled_two_vms : spelled (codes "version = 1\n[platform]\nbanks = [{ base = 0x0, size = 0x200000 }]\ncores = [16, 16]\ngicd = 0xaf000000\ngicr = 0xaf100000\nports = [{ id = 0, base = 0x9c090000, spi = 32 }, { id = 1, base = 0x9c0a0000, spi = 33 }]\n[hypervisor]\nbase = 0x0\nsize = 0x10000\n[[shmem]]\nbase = 0x180000\nsize = 0x1000\nevents = 2\n[[vm]]\nname = \"a\"\nimage = \"a.bin\"\nload = 0x100000\nroom = 0x8000\nentry = 0x100000\ncores = [0]\nregions = [{ base = 0x100000, size = 0x10000, access = \"rwx\" }]\ndevs = [{ port = 0, irq = 40 }]\nipcs = [{ shmem = 0, access = \"rw\", irqs = [50, 51] }]\n[[vm]]\nname = \"b\"\nimage = \"b.bin\"\nload = 0x140000\nroom = 0x8000\nentry = 0x140000\ncores = [1]\nregions = [{ base = 0x140000, size = 0x10000, access = \"rwx\" }]\ndevs = [{ port = 1, irq = 40 }]\nipcs = [{ shmem = 0, access = \"rw\", irqs = [60, 61] }]\n") ≡ Ok (two_vms 0x180000 vm_a vm_b)
unfolding config_on_literals
spelled_two_vms = refl

region_of_63_bytes : spelled (codes "version = 1\n[platform]\nbanks = [{ base = 0x0, size = 0x200000 }]\ncores = [16, 16]\ngicd = 0xaf000000\ngicr = 0xaf100000\nports = [{ id = 0, base = 0x9c090000, spi = 32 }, { id = 1, base = 0x9c0a0000, spi = 33 }]\n[hypervisor]\nbase = 0x0\nsize = 0x10000\n[[shmem]]\nbase = 0x180000\nsize = 0x1000\nevents = 2\n[[vm]]\nname = \"a\"\nimage = \"a.bin\"\nload = 0x100000\nroom = 0x8000\nentry = 0x100000\ncores = [0]\nregions = [{ base = 0x100000, size = 63, access = \"rwx\" }]\ndevs = [{ port = 0, irq = 40 }]\nipcs = [{ shmem = 0, access = \"rw\", irqs = [50, 51] }]\n[[vm]]\nname = \"b\"\nimage = \"b.bin\"\nload = 0x140000\nroom = 0x8000\nentry = 0x140000\ncores = [1]\nregions = [{ base = 0x140000, size = 0x10000, access = \"rwx\" }]\ndevs = [{ port = 1, irq = 40 }]\nipcs = [{ shmem = 0, access = \"rw\", irqs = [60, 61] }]\n") ≡ Err (BadValue (record { row = 37; i = 0; j = 0; k = 0 }) (pos 63))
unfolding config_on_literals
region_of_63_bytes = refl
