-- The rules on platform, lists and ranges: of each the list of its breaks, in the order in which they are reported. What
-- a rule names of a break stands in its record. Rules 20 to 22, which are said of bytes, stand in `ByteRules`.
use Rattle.std.specs.Prelude.{ℕ, ◌+◌, ◌-◌, ◌*◌, ◌==◌, nat_le, nat_lt, Bool, true, false, not, ◌&&◌, ◌||◌, if◌then◌else◌, List, [], ◌∷◌, ◌++◌, length, map, filter, flat_map, Option, None, Some, slice_get}
use Rattle.std.specs.List.{list_any}
use Rattle.std.specs.Cmp.Lexicographic.{pointwise}
use Rattle.bao_types.specs.declared.range.ByteRange.{ByteRange}
use Rattle.bao_types.specs.Controller.{frame_size, redistributor_size}
use Rattle.bao_types.specs.Shape.{memory_limit, port_range, port_size}
use Rattle.bao_config.specs.declared.config.Shmem.{Shmem}
use Rattle.bao_config.specs.declared.config.Dev.{Dev}
use Rattle.bao_config.specs.Data.{ConfigData, VmData, IpcData}
use Rattle.bao_wellformed.specs.declared.ill.Ill.{Ill}
use Rattle.bao_wellformed.specs.declared.piece.Piece.{Piece}
use Rattle.bao_wellformed.specs.declared.claim.Claim.{Claim}
use Rattle.bao_wellformed.specs.declared.claim.Claimed.TheVariants.{Cores, Ports, Shmems, Irqs}
use Rattle.bao_wellformed.specs.Claims.{claims}
use Rattle.bao_types.specs.ByteRange.{address_space_end, end, overlaps, lies_in}
use Rattle.bao_wellformed.specs.Break.{broken, indexed, pairs, in_each_vm, in_each_two_vms}

-- the emulated frames of the interrupt controller: one distributor, and a redistributor for each core of the platform
abbrev pub distributor : ConfigData → ByteRange
distributor cfg = record { base = cfg.platform.gicd; size = frame_size }

abbrev pub redistributors : ConfigData → ByteRange
redistributors cfg = record { base = cfg.platform.gicr; size = redistributor_size * length cfg.platform.cores }

-- the ranges of a VM, and all of a configuration
abbrev pub vm_ranges : VmData → List ByteRange
vm_ranges vm = vm.place ∷ map (λ region. region.range) vm.regions ++ vm.guards

abbrev pub all_ranges : ConfigData → List ByteRange
all_ranges cfg =
    cfg.platform.banks ++ distributor cfg ∷ redistributors cfg ∷ map (λ port. port_range port.base) cfg.platform.ports
    ++ cfg.hyp ∷ map (λ shmem. shmem.range) cfg.shmems ++ flat_map vm_ranges cfg.vms

-- 1: no range ends above 2^48
abbrev pub rule_1 : ConfigData → List Ill
rule_1 cfg =
    map (λ range. record (broken 1) { first = range })
    (filter (λ range. nat_lt address_space_end (end range)) (all_ranges cfg))

-- the bank at which the sizes pass the limit, if they do, where `total` is the size of the banks before
abbrev pub passing_bank : ℕ → List ByteRange → List ByteRange
passing_bank total [] = []
passing_bank total (bank ∷ banks) =
    if nat_lt memory_limit (total + bank.size) then bank ∷ [] else passing_bank (total + bank.size) banks

-- 2: the banks have at most 64 MiB together
abbrev pub rule_2 : ConfigData → List Ill
rule_2 cfg = map (λ bank. record (broken 2) { first = bank }) (passing_bank 0 cfg.platform.banks)

-- a bank or a port; none of them may come nearer than a port's size to the base of a frame, so a frame has a margin below it
abbrev pub plain : ByteRange → Piece
plain range = record { range = range; with_margin = range; is_frame = false }

abbrev pub frame : ByteRange → Piece
frame range = record { range = range; with_margin = record { base = range.base - port_size; size = range.size + port_size }; is_frame = true }

abbrev pub pieces : ConfigData → List Piece
pieces cfg =
    map plain cfg.platform.banks ++ frame (distributor cfg) ∷ frame (redistributors cfg)
    ∷ map (λ port. plain (port_range port.base)) cfg.platform.ports

-- the margin doesn't count between two frames
abbrev pub are_too_near : Piece → Piece → Bool
are_too_near one other =
    if one.is_frame && other.is_frame then overlaps one.range other.range else overlaps one.with_margin other.with_margin

-- 3: banks, frames and ports don't overlap
abbrev pub rule_3 : ConfigData → List Ill
rule_3 cfg =
    map (λ (one, other). record (broken 3) { first = one.range; second = other.range })
    (filter (λ (one, other). are_too_near one other) (pairs (pieces cfg)))

-- 4: no two ports have one id or one interrupt number
abbrev pub rule_4 : ConfigData → List Ill
rule_4 cfg =
    map (λ (one, other). record (broken 4) { first = port_range one.base; second = port_range other.base })
    (filter (λ (one, other). one.id == other.id || one.spi == other.spi) (pairs cfg.platform.ports))

abbrev pub lies_in_a_bank : ConfigData → ByteRange → Bool
lies_in_a_bank cfg range = list_any (λ bank. lies_in range bank) cfg.platform.banks

-- 5: the hypervisor's range lies in one bank
abbrev pub rule_5 : ConfigData → List Ill
rule_5 cfg = if lies_in_a_bank cfg cfg.hyp then [] else record (broken 5) { first = cfg.hyp } ∷ []

-- 6: each shared memory lies in one bank
abbrev pub rule_6 : ConfigData → List Ill
rule_6 cfg =
    map (λ shmem. record (broken 6) { first = shmem.range })
    (filter (λ shmem. not (lies_in_a_bank cfg shmem.range)) cfg.shmems)

-- 7: no shared memory overlaps the hypervisor's range
abbrev pub rule_7 : ConfigData → List Ill
rule_7 cfg =
    map (λ shmem. record (broken 7) { first = shmem.range; second = cfg.hyp })
    (filter (λ shmem. overlaps shmem.range cfg.hyp) cfg.shmems)

-- 8: no two shared memories overlap
abbrev pub rule_8 : ConfigData → List Ill
rule_8 cfg =
    map (λ (one, other). record (broken 8) { first = one.range; second = other.range })
    (filter (λ (one, other). overlaps one.range other.range) (pairs cfg.shmems))

-- 9: no two VMs have one name
abbrev pub names_alike : ConfigData → ℕ → VmData → ℕ → VmData → List Ill
names_alike cfg v vm w other = if pointwise ◌==◌ vm.name other.name then record (broken 9) { vm = w; item = v } ∷ [] else []

abbrev pub rule_9 : ConfigData → List Ill
rule_9 cfg = in_each_two_vms (names_alike cfg) cfg

-- 10: each core of a VM is one of the platform
abbrev pub foreign_cores : ConfigData → ℕ → VmData → List Ill
foreign_cores cfg v vm =
    map (λ (j, core). record (broken 10) { vm = v; item = j })
    (filter (λ (j, core). nat_le (length cfg.platform.cores) core) (indexed vm.cores))

abbrev pub rule_10 : ConfigData → List Ill
rule_10 cfg = in_each_vm (foreign_cores cfg) cfg

-- what is claimed twice: the later claim of each two is named
abbrev pub claimed_twice : ℕ → (Claim → Claim → Bool) → List Claim → List Ill
claimed_twice rule are_one claimed =
    map (λ (one, other). record (broken rule) { vm = other.vm; item = other.item })
    (filter (λ (one, other). are_one one other) (pairs claimed))

-- two claims to one thing of the machine
abbrev pub are_one : Claim → Claim → Bool
are_one one other = one.number == other.number

-- two claims to one thing of a VM
abbrev pub are_one_in_vm : Claim → Claim → Bool
are_one_in_vm one other = one.vm == other.vm && one.number == other.number

-- 11: no core is claimed twice
abbrev pub rule_11 : ConfigData → List Ill
rule_11 cfg = claimed_twice 11 are_one (claims Cores cfg)

-- 12: each region lies in one bank
abbrev pub regions_outside : ConfigData → ℕ → VmData → List Ill
regions_outside cfg v vm =
    map (λ (j, region). record (broken 12) { vm = v; item = j; first = region.range })
    (filter (λ (j, region). not (lies_in_a_bank cfg region.range)) (indexed vm.regions))

abbrev pub rule_12 : ConfigData → List Ill
rule_12 cfg = in_each_vm (regions_outside cfg) cfg

-- 13: no region overlaps the hypervisor's range
abbrev pub regions_of_the_hypervisor : ConfigData → ℕ → VmData → List Ill
regions_of_the_hypervisor cfg v vm =
    map (λ (j, region). record (broken 13) { vm = v; item = j; first = region.range; second = cfg.hyp })
    (filter (λ (j, region). overlaps region.range cfg.hyp) (indexed vm.regions))

abbrev pub rule_13 : ConfigData → List Ill
rule_13 cfg = in_each_vm (regions_of_the_hypervisor cfg) cfg

-- 14: each dev names a port of the platform
abbrev pub names_a_port : ConfigData → Dev → Bool
names_a_port cfg dev = list_any (λ port. port.id == dev.port) cfg.platform.ports

abbrev pub devs_without_port : ConfigData → ℕ → VmData → List Ill
devs_without_port cfg v vm =
    map (λ (j, dev). record (broken 14) { vm = v; item = j })
    (filter (λ (j, dev). not (names_a_port cfg dev)) (indexed vm.devs))

abbrev pub rule_14 : ConfigData → List Ill
rule_14 cfg = in_each_vm (devs_without_port cfg) cfg

-- 15: no port is claimed twice
abbrev pub rule_15 : ConfigData → List Ill
rule_15 cfg = claimed_twice 15 are_one (claims Ports cfg)

-- 16: each ipc names a shared memory
abbrev pub ipcs_without_shmem : ConfigData → ℕ → VmData → List Ill
ipcs_without_shmem cfg v vm =
    map (λ (j, ipc). record (broken 16) { vm = v; item = j })
    (filter (λ (j, ipc). nat_le (length cfg.shmems) ipc.shmem) (indexed vm.ipcs))

abbrev pub rule_16 : ConfigData → List Ill
rule_16 cfg = in_each_vm (ipcs_without_shmem cfg) cfg

-- 17: no VM has two windows on one shared memory
abbrev pub rule_17 : ConfigData → List Ill
rule_17 cfg = claimed_twice 17 are_one_in_vm (claims Shmems cfg)

-- an ipc without its shared memory has no events to be wrong about
abbrev pub lacks_irqs : Option Shmem → IpcData → Bool
lacks_irqs None ipc = false
lacks_irqs (Some shmem) ipc = not (length ipc.irqs == shmem.events)

-- 18: an ipc has one interrupt number for each event
abbrev pub ipcs_without_irqs : ConfigData → ℕ → VmData → List Ill
ipcs_without_irqs cfg v vm =
    map (λ (j, ipc). record (broken 18) { vm = v; item = j })
    (filter (λ (j, ipc). lacks_irqs (slice_get cfg.shmems ipc.shmem) ipc) (indexed vm.ipcs))

abbrev pub rule_18 : ConfigData → List Ill
rule_18 cfg = in_each_vm (ipcs_without_irqs cfg) cfg

-- 19: no interrupt number stands twice in a VM; the item is its place among all of the VM
abbrev pub rule_19 : ConfigData → List Ill
rule_19 cfg = claimed_twice 19 are_one_in_vm (claims Irqs cfg)
