use Rattle.std.proofs.Common.{◌≤◌, ◌<◌, ℕ, get_or}
use Rattle.bao_types.specs.ListReg.{ListRegData}
use Rattle.vgic_iface.specs.Rank.{no_rank}
use Rattle.vgic_iface.specs.Interface.{best_listed, rank_by}
use Rattle.vgic_iface.proofs.lists.best_listed.Given as goal

-- the best so far is no less than the best of all, and no greater than what any register adds that was looked at
abbrev pub invariant-loop-list : goal.invariant-loop-list
invariant-loop-list l =
    record {
      top : l.best ≤ no_rank;
      above : best_listed l.lists ≤ l.best;
      below : (k : ℕ) (d : ListRegData) → k < l.list-index → l.best ≤ rank_by l.lists (get_or l.lists k d);
    }
