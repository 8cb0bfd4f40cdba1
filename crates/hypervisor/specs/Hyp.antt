-- What a contract sees of `Hyp`.
use Rattle.std.specs.Prelude.{ℕ, List, Option, length, map, slice_get, slice_index}
use Rattle.bao_config.specs.Data.{ConfigData, VmData}
use Rattle.board.specs.Machine.{Machine}
use Rattle.vgic_table.specs.Interrupts.{Interrupts, quiet_interrupts, tables_of}
use Rattle.vm_model.specs.Flat.{Flat}
use Rattle.vm_model.specs.Project.{project}
use Rattle.hypercalls.specs.declared.power.Power.{Power}

-- the power of each core, by its physical number, and the interrupts of each VM, by its place, but for those in list registers
pub record HypData : Type 0 where
  pub powers : List Power
  pub tables : List Interrupts

-- at boot
abbrev pub boot_tables : ConfigData → List Interrupts
boot_tables cfg = map (λ vm. quiet_interrupts (length vm.cores)) cfg.vms

-- the flat machine for which a hypervisor and a board stand
abbrev pub stands_for : ConfigData → HypData → Machine → Flat
stands_for cfg hyp m = project cfg hyp.powers (tables_of hyp.tables) m

-- of a virtual core of a VM
abbrev pub power_of : HypData → VmData → ℕ → Option Power
power_of hyp vm core = slice_get hyp.powers (slice_index vm.cores core)
