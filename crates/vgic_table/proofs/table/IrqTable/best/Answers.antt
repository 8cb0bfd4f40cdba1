use Rattle.std.proofs.Common.{arith, ◌≡◌, refl, sym, rules, ◌+◌, min, ℕ, add-one}
use Rattle.vgic_iface.specs.Rank.{least}
use Rattle.vgic_table.specs.Interrupts.{rank_at}
use Rattle.vgic_table.proofs.RankLemmas.{best-off}
use Rattle.vgic_table.proofs.table.IrqTable.best.Goals as goal

-- one more id
least-more : (rank_of : ℕ → ℕ) (count : ℕ) → least rank_of (count + 1) ≡ min (least rank_of count) (rank_of count)
unfolding least
least-more rank_of count = rw add-one refl

pub loop-id-init : goal.loop-id-init
unfolding least
loop-id-init c = (refl, omega arith)

pub loop-id-preserved : goal.loop-id-preserved
loop-id-preserved c = (
  rw (least-more (rank_at c.args.self.now c.args.core) c.loop-id.id, ← c.loop-id.invariant.0, ← c.rank_at.ensures.value) c.min-best.ensures,
  omega (arith, c.loop-id.invariant.1, c.min-best.ensures),
)

pub returns-then-not-self-clause-value : goal.returns-then-not-self-clause-value
returns-then-not-self-clause-value c = sym (best-off c.args.self.now c.args.core (search rules))
