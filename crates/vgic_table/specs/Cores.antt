-- The interrupts of a VM of several cores, each with list registers of its own.
use Rattle.std.specs.Prelude.{ℕ, suc, ◌<◌, ◌≤◌, List, [], ◌∷◌, length}
use Rattle.bao_types.specs.ListReg.{ListRegData}
use Rattle.vgic_table.specs.Interrupts.{Interrupts}
use Rattle.vgic_table.specs.Registers.{Tidy, joined}
use Rattle.vgic_table.specs.Shape.{IsShaped}

-- table and the registers of all cores together, from a virtual core on
abbrev pub joined_cores : ℕ → List (List ListRegData) → Interrupts → Interrupts
joined_cores core [] vm = vm
joined_cores core (lists ∷ rest) vm = joined (joined_cores (suc core) rest vm) core lists

-- each core's registers fit the table
abbrev pub AreTidy : ℕ → List (List ListRegData) → Interrupts → Type 0
AreTidy core [] vm = Unit {0}
AreTidy core (lists ∷ rest) vm = Tidy vm core lists × AreTidy (suc core) rest vm

-- the core is one of a VM's cores, whose registers fit the table
pub record IsCoreOf (vm : Interrupts) (registers : List (List ListRegData)) (core : ℕ) : Type 0 where
  pub few : length registers ≤ 8
  pub within : core < length registers
  pub shaped : IsShaped vm
  pub tidy : AreTidy 0 registers vm
