-- The report: a section for each VM, then `done`.
use Rattle.std.specs.Prelude.{ℕ, zero, suc, ◌+◌, ◌/◌, ◌==◌, ◌&&◌, nat_lt, Bool, true, false, not, if◌then◌else◌, List, [], ◌∷◌, ◌++◌, Option, None, Some, slice_get, codes}
use Rattle.std.specs.List.{list_all}
use Rattle.a64_state.specs.Core.{CoreData}
use Rattle.bao_types.specs.ByteRange.{address_space_end}
use Rattle.bao_config.specs.Data.{ConfigData, VmData}
use Rattle.bao_config.specs.declared.config.Dev.{Dev}
use Rattle.bao_wellformed.specs.declared.map.Kind.{Kind}
use Rattle.bao_wellformed.specs.declared.map.Kind.TheVariants.{Ram, Port, Window, Hole}
use Rattle.bao_wellformed.specs.Map.{kind_at}
use Rattle.board.specs.Machine.{core_at}
use Rattle.board.specs.View.{view_of}
use Rattle.hypercalls.specs.declared.power.Power.{Power}
use Rattle.hypercalls.specs.declared.power.Power.TheVariants.{On, Off, Parked}
use Rattle.vm_model.specs.Flat.{Flat}
use Rattle.board.specs.Ports.{console_count, outputs}
use Rattle.report.specs.Lines.{vm_line, end_line, core_on_line, core_off_line, core_parked_line, console_line, memory_line, done_line}
use Rattle.report.specs.Registers.{registers_text}

-- a core that the machine doesn't have is off
abbrev pub power_line : ℕ → Option Power → List ℕ
power_line j None = core_off_line j
power_line j (Some On) = core_on_line j
power_line j (Some Off) = core_off_line j
power_line j (Some (Parked esr far)) = core_parked_line j esr far

-- the virtual core j, which is this physical core
unfoldable pub core_text : List Power → List CoreData → ℕ → ℕ → List ℕ
core_text powers cores j core = power_line j (slice_get powers core) ++ registers_text (view_of (core_at cores core))

-- the virtual cores from a number on
unfoldable pub cores_text : List Power → List CoreData → ℕ → List ℕ → List ℕ
cores_text powers cores j [] = []
cores_text powers cores j (own ∷ owns) = core_text powers cores j own ++ cores_text powers cores (j + 1) owns

-- the first ports are consoles
abbrev pub is_console : ℕ → Bool
is_console port = nat_lt port console_count

-- the VM's consoles, in the order of its devs
unfoldable pub console_text : (ℕ → List ℕ) → Dev → List ℕ
console_text console dev = if is_console dev.port then console_line dev.port (console dev.port) else []

unfoldable pub consoles_text : (ℕ → List ℕ) → List Dev → List ℕ
consoles_text console [] = []
consoles_text console (dev ∷ devs) = console_text console dev ++ consoles_text console devs

-- this many bytes from an address on
unfoldable pub run_of : (ℕ → ℕ) → ℕ → ℕ → List ℕ
run_of bytes at zero = []
run_of bytes at (suc n) = bytes at ∷ run_of bytes (at + 1) n

-- the VM has memory there, of its own or shared
abbrev pub is_memory : Kind → Bool
is_memory (Ram write exec) = true
is_memory (Port id) = false
is_memory (Window shmem write) = true
is_memory Hole = false

abbrev pub are_zero : List ℕ → Bool
are_zero bytes = list_all (λ byte. byte == 0) bytes

-- 16 bytes where the VM has memory and they aren't all zero. Its ranges are multiples of 64, so the first byte tells
unfoldable pub group_text : (ℕ → Kind) → (ℕ → ℕ) → ℕ → List ℕ
group_text kinds bytes at =
    if is_memory (kinds at) && not (are_zero (run_of bytes at 16)) then memory_line at (run_of bytes at 16) else []

-- this many groups of 16 bytes from an address on
unfoldable pub memory_text : (ℕ → Kind) → (ℕ → ℕ) → ℕ → ℕ → List ℕ
memory_text kinds bytes zero at = []
memory_text kinds bytes (suc n) at = group_text kinds bytes at ++ memory_text kinds bytes n (at + 16)

-- those of the whole address space
abbrev pub all_groups : ℕ
all_groups = address_space_end / 16

-- what the report shows of a VM
unfoldable pub vm_text : ConfigData → Flat → VmData → List ℕ
vm_text cfg f vm =
    vm_line vm.name
    ++ (cores_text f.powers f.cores 0 vm.cores
    ++ (consoles_text (outputs f.ports) vm.devs
    ++ (memory_text (kind_at cfg vm) f.bytes all_groups 0 ++ end_line vm.name)))

abbrev pub section_of : ConfigData → Flat → Option VmData → List ℕ
section_of cfg f None = []
section_of cfg f (Some vm) = vm_text cfg f vm

-- the section of the VM of that number
abbrev pub section : ConfigData → Flat → ℕ → List ℕ
section cfg f v = section_of cfg f (slice_get cfg.vms v)

unfoldable pub sections : ConfigData → Flat → List VmData → List ℕ
sections cfg f [] = []
sections cfg f (vm ∷ vms) = vm_text cfg f vm ++ sections cfg f vms

-- the whole report
abbrev pub report : ConfigData → Flat → List ℕ
report cfg f = sections cfg f cfg.vms ++ done_line
