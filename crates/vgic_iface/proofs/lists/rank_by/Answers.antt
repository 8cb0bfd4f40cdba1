use Rattle.bao_types.specs.Controller.{id_end}
use Rattle.vgic_iface.specs.Interface.{listed_rank}
use Rattle.vgic_iface.proofs.LeastLemmas.{least_le, least_le_none}
use Rattle.vgic_iface.proofs.lists.rank_by.Goals as goal

pub returns-then-not-list-clause-above : goal.returns-then-not-list-clause-above
returns-then-not-list-clause-above c =
    let lists = c.args.lists.now in
    rw c.listed_rank.ensures.value (least_le (listed_rank lists) id_end c.list.inside.id c.list.invariant.0)

pub returns-else-list-clause-above : goal.returns-else-list-clause-above
returns-else-list-clause-above c = least_le_none (listed_rank c.args.lists.now) id_end
