-- The summary: a line for each VM, then `done`.
use Rattle.std.specs.Prelude.{ℕ, ◌%◌, ◌^◌, if◌then◌else◌, List, [], ◌∷◌, ◌++◌, Option, None, Some, slice_get, codes, length, sum}
use Rattle.std.specs.Fmt.{decimal}
use Rattle.std.specs.List.{flat_map}
use Rattle.numerals.specs.Hex.{hex}
use Rattle.a64_state.specs.Core.{CoreData}
use Rattle.a64_state.specs.Registers.{x_of}
use Rattle.bao_config.specs.Data.{ConfigData, VmData}
use Rattle.bao_config.specs.declared.config.Dev.{Dev}
use Rattle.board.specs.Machine.{core_at}
use Rattle.board.specs.Ports.{outputs}
use Rattle.vm_model.specs.Flat.{Flat}
use Rattle.text_lines.specs.Newline.{newline}
use Rattle.report.specs.Lines.{done_line}
use Rattle.report.specs.Section.{is_console}

-- X0 of the first of a VM's cores, its virtual core 0; a VM without cores has none, and shows 0
abbrev pub first_x0 : List CoreData → List ℕ → ℕ
first_x0 all [] = 0
first_x0 all (core ∷ cores) = x_of (core_at all core) 0

-- what a dev has put out, where it is a console
abbrev pub dev_output : (ℕ → List ℕ) → Dev → List ℕ
dev_output console dev = if is_console dev.port then console dev.port else []

-- what the consoles among a VM's devs have put out, joined in the order of the devs
abbrev pub joined_output : (ℕ → List ℕ) → List Dev → List ℕ
joined_output console devs = flat_map (dev_output console) devs

-- `vm NAME x0 H out LEN sum P`
unfoldable pub summary_head : List ℕ → ℕ → List ℕ
summary_head name x0 = codes "vm " ++ (name ++ (codes " x0 " ++ hex 16 x0))

unfoldable pub summary_counts : ℕ → ℕ → List ℕ
summary_counts len sum = codes " out " ++ (decimal len ++ (codes " sum " ++ (hex 8 sum ++ newline)))

abbrev pub summary_line : List ℕ → ℕ → ℕ → ℕ → List ℕ
summary_line name x0 len sum = summary_head name x0 ++ summary_counts len sum

-- the sum of bytes modulo 2^32
abbrev pub checksum : List ℕ → ℕ
checksum bytes = sum bytes % 2 ^ 32

-- the line of a VM: of all that its consoles have put out together, the number of bytes and their sum
abbrev pub vm_summary : List CoreData → (ℕ → List ℕ) → VmData → List ℕ
vm_summary cores console vm =
    let output = joined_output console vm.devs in summary_line vm.name (first_x0 cores vm.cores) (length output) (checksum output)

abbrev pub summary_of : Flat → Option VmData → List ℕ
summary_of f None = []
summary_of f (Some vm) = vm_summary f.cores (outputs f.ports) vm

-- the line of the VM of that number
abbrev pub summary_at : ConfigData → Flat → ℕ → List ℕ
summary_at cfg f v = summary_of f (slice_get cfg.vms v)

-- the whole summary
abbrev pub summary : ConfigData → Flat → List ℕ
summary cfg f = flat_map (vm_summary f.cores (outputs f.ports)) cfg.vms ++ done_line
