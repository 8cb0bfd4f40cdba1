-- When a hypervisor and a board belong to a configuration, so that together they stand for a flat machine.
use Rattle.std.specs.Prelude.{◌≡◌, ℕ, ◌<◌, true, false, List, All, length, map}
use Rattle.bao_config.specs.Data.{ConfigData}
use Rattle.board.specs.Machine.{Machine}
use Rattle.bao_types.specs.ListReg.{ListRegData}
use Rattle.gic_core.specs.declared.port_line.PortLine.{PortLine}
use Rattle.gic_core.specs.PortLine.{quiet_line}
use Rattle.vgic_table.specs.Cores.{AreTidy}
use Rattle.vgic_table.specs.Interrupts.{Interrupts, tables_of}
use Rattle.vgic_table.specs.Shape.{IsShaped}
use Rattle.vm_model.specs.Project.{lists_of}
use Rattle.hypervisor.specs.Hyp.{HypData}
use Rattle.hypervisor.specs.Packed.{all_filled, packings}
use Rattle.hypervisor.specs.Shape.{shape_of}

-- how many cores each VM's interrupts are for
abbrev pub core_counts : List Interrupts → List ℕ
core_counts tables = map (λ table. table.cores) tables

-- Tables and list registers hold the interrupts of a configuration's VMs: there is a table for each VM, for its cores; each core of
-- the platform has registers; and those of a VM's cores fit its table.
pub record AreHeld (cfg : ConfigData) (tables : List Interrupts) (lists : List (List ListRegData)) : Type 0 where
  pub counts : core_counts tables ≡ map (λ vm. length vm.cores) cfg.vms
  pub shaped : All IsShaped tables
  pub registers : length lists ≡ length cfg.platform.cores
  pub fit : (v : ℕ) → v < length cfg.vms → AreTidy 0 (lists_of cfg lists v) (tables_of tables v)

-- an interrupt line that isn't raised
abbrev pub quieted : PortLine → PortLine
quieted line = record line { raised = false }

-- The board is fitted and has the configuration's shape, for its number of events; the entries of each core are its packing
-- with zero entries after it; its lines are those of its cores and ports; and the hypervisor has a power for each core of the
-- platform, and holds the interrupts together with the list registers.
pub record Tidy (cfg : ConfigData) (hyp : HypData) (m : Machine) : Type 0 where
  pub fitted : m.fitted ≡ true
  pub shape : m.shape ≡ shape_of cfg m.shape.events
  pub entries : m.entries ≡ all_filled cfg.platform.cores (packings cfg)
  pub timer_lines : length m.lines.ppis ≡ 8
  pub port_lines : map quieted m.lines.ports ≡ map quiet_line m.shape.ports
  pub powers : length hyp.powers ≡ length cfg.platform.cores
  pub held : AreHeld cfg hyp.tables m.lists
