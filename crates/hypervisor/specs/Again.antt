-- What list registers that are filled again leave of a table, for private clauses: as `vgic_table` says it, but shut, so that a
-- search over several tables doesn't look into it.
use Rattle.std.specs.Prelude.{ℕ, List}
use Rattle.bao_types.specs.ListReg.{ListRegData}
use Rattle.vgic_table.specs.Interrupts.{Interrupts}
use Rattle.vgic_table.specs.Registers.{refilled_table}

unfoldable pub filled_again : Interrupts → ℕ → List ListRegData → Interrupts
filled_again table own lists = refilled_table table own lists
