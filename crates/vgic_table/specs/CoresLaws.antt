-- What a table and the registers of all cores keep of each other, where one core's registers are changed.
use Rattle.std.specs.Prelude.{◌≡◌, ℕ, List, slice_set}
use Rattle.bao_types.specs.ListReg.{ListRegData, free_registers, lists_at}
use Rattle.bao_types.specs.IfaceRegs.{IfaceData}
use Rattle.vgic_iface.specs.Interface.{acknowledged, best_listed, listed_signal, lists_acknowledged, lists_ended}
use Rattle.vgic_table.specs.Interrupts.{Interrupts, best}
use Rattle.vgic_table.specs.Changes.{after_acknowledge, after_end, signal}
use Rattle.vgic_table.specs.Registers.{joined, refilled_lists, refilled_table}
use Rattle.vgic_table.specs.Shape.{BestIsListed}
use Rattle.vgic_table.specs.Laws.{table_ended}
use Rattle.vgic_table.specs.Cores.{AreTidy, joined_cores}

-- table and registers stand for all interrupts, and each register fits the table
pub record StandFor (all : Interrupts) (registers : List (List ListRegData)) (vm : Interrupts) : Type 0 where
  pub same : joined_cores 0 registers vm ≡ all
  pub tidy : AreTidy 0 registers vm

-- an acknowledgement by a core's registers is one by all interrupts
pub record CoreAcknowledges (vm : Interrupts) (registers : List (List ListRegData)) (core : ℕ) (iface : IfaceData) : Type 0 where
  pub value : listed_signal iface (lists_at registers core) ≡ signal (joined_cores 0 registers vm) core iface
  pub listed : best (joined_cores 0 registers vm) core ≡ best_listed (lists_at registers core)
  pub interface : acknowledged iface (best_listed (lists_at registers core)) ≡ acknowledged iface (best (joined_cores 0 registers vm) core)
  pub after :
      StandFor (after_acknowledge (joined_cores 0 registers vm) core iface)
      (slice_set registers core (lists_acknowledged iface (lists_at registers core))) vm

-- an end by a core's registers, and by the table where the id stands in none of them, is an end by all interrupts
abbrev pub CoreEnds : Interrupts → List (List ListRegData) → ℕ → ℕ → Type 0
CoreEnds vm registers core id =
    StandFor (after_end (joined_cores 0 registers vm) core id)
    (slice_set registers core (lists_ended (lists_at registers core) id))
    (table_ended vm core (lists_at registers core) id)

-- a core's registers that are taken back to the table change nothing of all interrupts
abbrev pub CoreCollects : Interrupts → List (List ListRegData) → ℕ → Type 0
CoreCollects vm registers core =
    StandFor (joined_cores 0 registers vm) (slice_set registers core free_registers) (joined vm core (lists_at registers core))

-- nor do those that are filled again, which then have the best id of their core
pub record CoreRefills (vm : Interrupts) (registers : List (List ListRegData)) (core : ℕ) : Type 0 where
  pub after :
      StandFor (joined_cores 0 registers vm)
      (slice_set registers core (refilled_lists vm core (lists_at registers core)))
      (refilled_table vm core (lists_at registers core))
  pub best : BestIsListed (refilled_table vm core (lists_at registers core)) core (refilled_lists vm core (lists_at registers core))
