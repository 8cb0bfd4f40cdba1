use Rattle.std.proofs.Common.{arith, ◌≡◌, ◌∙◌, ap, sym, min}
use Rattle.std.proofs.Math.Nat.{le_antisymm}
use Rattle.bao_types.specs.Controller.{id_end}
use Rattle.vgic_iface.specs.Interface.{listed_rank, rank_by}
use Rattle.vgic_iface.proofs.LeastLemmas.{least_le_none, le_least}
use Rattle.vgic_iface.proofs.ListsLemmas.{below-more, le_listed_rank}
use Rattle.vgic_iface.proofs.lists.best_listed.Goals as goal

pub loop-list-init : goal.loop-list-init
loop-list-init c =
    record { top = omega arith; above = least_le_none (listed_rank c.args.lists.now) id_end; below = λ k d before. absurd (omega arith) }

pub loop-list-preserved : goal.loop-list-preserved
loop-list-preserved c =
    let lists = c.args.lists.now in
    let list = c.list-item.result in
    let next : c.min-best.result ≡ min c.loop-list.best (rank_by lists list) =
    c.min-best.ensures ∙ ap (min c.loop-list.best) (c.rank_by.ensures.value ∙ ap (rank_by lists) (sym c.list-item.is)) in
    record {
      top = omega (arith, c.min-best.ensures, c.loop-list.invariant.top);
      above = omega (arith, c.min-best.ensures, c.loop-list.invariant.above, c.rank_by.ensures.above);
      below = below-more lists c.loop-list.list-index list c.loop-list.best c.min-best.result (omega (arith, c.loop-list-test.true)) c.list-item.is next c.loop-list.invariant.below;
    }

pub returns-clause-value : goal.returns-clause-value
returns-clause-value c =
    let lists = c.args.lists.now in
    le_antisymm
    (le_least (listed_rank lists) id_end c.loop-list.best c.loop-list.invariant.top
    (λ id within. le_listed_rank lists c.loop-list.best c.loop-list.invariant.top (λ k d before. c.loop-list.invariant.below k d (omega (arith, before, c.loop-list-test.false))) id))
    c.loop-list.invariant.above
