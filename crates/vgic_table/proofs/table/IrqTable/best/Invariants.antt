use Rattle.std.proofs.Common.{◌≡◌, ◌≤◌}
use Rattle.vgic_iface.specs.Rank.{least, no_rank}
use Rattle.vgic_table.specs.Interrupts.{rank_at}
use Rattle.vgic_table.proofs.table.IrqTable.best.Given as goal

abbrev pub invariant-loop-id : goal.invariant-loop-id
invariant-loop-id l = (l.best ≡ least (rank_at l.self l.core) l.id) × (l.best ≤ no_rank)
