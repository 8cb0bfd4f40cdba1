-- What table and list registers keep of each other.
use Rattle.std.specs.Prelude.{◌≡◌, ℕ, List, if◌then◌else◌}
use Rattle.bao_types.specs.ListReg.{ListRegData}
use Rattle.bao_types.specs.IfaceRegs.{IfaceData}
use Rattle.vgic_iface.specs.Interface.{acknowledged, best_listed, is_unlisted, listed_signal, lists_acknowledged, lists_ended}
use Rattle.vgic_table.specs.Interrupts.{Interrupts, best}
use Rattle.vgic_table.specs.Changes.{after_acknowledge, after_end, made_inactive, signal}
use Rattle.vgic_table.specs.Registers.{Tidy, joined, refilled_lists, refilled_table}
use Rattle.vgic_table.specs.Shape.{BestIsListed}

-- list registers were filled from a table: no id is lost, doubled or changed, and what the registers signal is what the
-- core may take
pub record IsFilled (vm left : Interrupts) (core : ℕ) (lists : List ListRegData) : Type 0 where
  pub same : joined left core lists ≡ vm
  pub tidy : Tidy left core lists
  pub signals : best_listed lists ≡ best vm core

-- an acknowledgement by the registers is one by all interrupts
pub record Acknowledges (vm : Interrupts) (core : ℕ) (iface : IfaceData) (lists : List ListRegData) : Type 0 where
  pub value : listed_signal iface lists ≡ signal (joined vm core lists) core iface
  pub interface : acknowledged iface (best_listed lists) ≡ acknowledged iface (best (joined vm core lists) core)
  pub after : joined vm core (lists_acknowledged iface lists) ≡ after_acknowledge (joined vm core lists) core iface
  pub tidy : Tidy vm core (lists_acknowledged iface lists)

-- the table after the end of an id by the registers: an id that stands in none is inactive
abbrev pub table_ended : Interrupts → ℕ → List ListRegData → ℕ → Interrupts
table_ended vm core lists id = if is_unlisted lists id then made_inactive vm core id else vm

-- an end by the registers, and by the table where the id stands in none, is an end by all interrupts
pub record Ends (vm : Interrupts) (core : ℕ) (lists : List ListRegData) (id : ℕ) : Type 0 where
  pub after : joined (table_ended vm core lists id) core (lists_ended lists id) ≡ after_end (joined vm core lists) core id
  pub tidy : Tidy (table_ended vm core lists id) core (lists_ended lists id)

-- registers that were filled again where that was due: no id is lost, doubled or changed, and none comes before the best
-- in them
pub record Refills (vm : Interrupts) (core : ℕ) (lists : List ListRegData) : Type 0 where
  pub same : joined (refilled_table vm core lists) core (refilled_lists vm core lists) ≡ joined vm core lists
  pub tidy : Tidy (refilled_table vm core lists) core (refilled_lists vm core lists)
  pub best : BestIsListed (refilled_table vm core lists) core (refilled_lists vm core lists)
