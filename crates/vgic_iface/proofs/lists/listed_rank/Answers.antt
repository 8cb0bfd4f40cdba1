use Rattle.std.proofs.Common.{arith, ◌∙◌, ap, sym}
use Rattle.std.specs.Option.{option_map_or}
use Rattle.vgic_iface.specs.Rank.{no_rank}
use Rattle.vgic_iface.specs.Interface.{holds, rank_in}
use Rattle.vgic_iface.proofs.ListsLemmas.{find_none-more, find-at}
use Rattle.vgic_iface.proofs.lists.listed_rank.Goals as goal

pub returns-then-holds-clause-value : goal.returns-then-holds-clause-value
returns-then-holds-clause-value c =
    c.rank_in.ensures.value
    ∙ sym (ap (λ found. option_map_or rank_in found no_rank)
    (find-at (holds c.args.id) c.args.lists.now c.loop-list.list-index c.list-item.result
    (omega (arith, c.loop-list-test.true)) c.list-item.is c.loop-list.invariant (sym c.holds.ensures ∙ c.if-holds.true)))

pub loop-list-preserved : goal.loop-list-preserved
loop-list-preserved c =
    find_none-more (holds c.args.id) c.args.lists.now c.loop-list.list-index c.list-item.result
    (omega (arith, c.loop-list-test.true)) c.list-item.is c.loop-list.invariant (sym c.holds.ensures ∙ c.if-holds.false)
