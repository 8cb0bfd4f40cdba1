-- When a step of a board's core is the step of the model.
use Rattle.std.specs.Prelude.{◌≡◌, ℕ, List}
use Rattle.bao_types.specs.ListReg.{lists_at}
use Rattle.bao_config.specs.Data.{ConfigData}
use Rattle.bao_wellformed.specs.Map.{class_of}
use Rattle.board.specs.Machine.{Machine, entries_at, machine_effect}
use Rattle.vgic_iface.specs.Interface.{best_listed}
use Rattle.hypercalls.specs.declared.power.Power.{Power}
use Rattle.vm_model.specs.Flat.{flat_effect}
use Rattle.vm_model.specs.Interrupts.{best_of}
use Rattle.vm_model.specs.Guests.{Tables}
use Rattle.vm_model.specs.Project.{joined_tables, project}
use Rattle.hypervisor.specs.Shape.{shape_of}
use Rattle.mpu_packer.specs.Packing.{Realises}

-- For every configuration: where a board has its shape, the entries of a core realise its map, and the best interrupt of the core
-- stands in its list registers, a step of the core for which no line is raised does on the board what it does in the model.
abbrev pub StepsAlike : Type 0
StepsAlike =
    (cfg : ConfigData) (m : Machine) (powers : List Power) (tables : Tables) (core count : ℕ)
    → Realises (entries_at m.entries core) (class_of cfg core) → m.shape ≡ shape_of cfg m.shape.events
    → best_of cfg (joined_tables cfg m.lists tables) core ≡ best_listed (lists_at m.lists core)
    → machine_effect m core count ≡ flat_effect cfg (project cfg powers tables m) core count
