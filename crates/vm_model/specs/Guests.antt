-- What the hypervisor works on: the cores of all VMs, their powers and their interrupts.
use Rattle.std.specs.Prelude.{ℕ, List, Option, None, Some, length}
use Rattle.a64_state.specs.Core.{CoreData}
use Rattle.bao_config.specs.Data.{VmData}
use Rattle.hypercalls.specs.declared.power.Power.{Power}
use Rattle.vgic_table.specs.Interrupts.{Interrupts, quiet_interrupts}

-- the interrupts of each VM, by its place
abbrev pub Tables : Type 0
Tables = ℕ → Interrupts

-- each core's registers and power by its number, and each VM's interrupts by its place
pub record Guests : Type 0 where
  pub cores : List CoreData
  pub powers : List Power
  pub tables : Tables

-- the interrupts of a VM at boot; where there is no VM there are none
abbrev pub boot_table : Option VmData → Interrupts
boot_table None = quiet_interrupts 0
boot_table (Some vm) = quiet_interrupts (length vm.cores)
