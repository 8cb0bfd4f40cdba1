use Rattle.std.proofs.Common.{arith, refl, ◌≡◌, ◌<◌, ◌∙◌, ap, sym, length, true, false, get_or, slice_set}
use Rattle.std.proofs.lemmas.List.{set-get_or}
use Rattle.vgic_iface.specs.Interface.{holds, made_inactive}
use Rattle.vgic_iface.proofs.ListsLemmas.{find_none-more, find-at, find_none-end, with_holder-at, with_holder-none}
use Rattle.vgic_iface.proofs.lists.make_inactive.Goals as goal

pub returns-then-holds-clause-after : goal.returns-then-holds-clause-after
returns-then-holds-clause-after c =
    let lists = c.args.lists.now in
    let i = c.loop-list.list-index in
    let list = c.list-item.result in
    let within : i < length lists = rw (← c.loop-list.invariant.0) (omega (arith, c.loop-list-test.true)) in
    let is : list ≡ get_or lists i list = rw (← c.loop-list.invariant.0) c.list-item.is in
    let on : holds c.args.id list ≡ true = ap (holds c.args.id) c.list-item.is ∙ sym c.holds.ensures ∙ c.if-holds.true in
    ap (λ new. slice_set c.loop-list.lists i (made_inactive new)) (c.list.view_is ∙ sym c.list-item.is)
    ∙ ap (λ all. slice_set all i (made_inactive list)) c.loop-list.invariant.0
    ∙ with_holder-at made_inactive c.args.id lists i list within is c.loop-list.invariant.1 on

pub loop-list-preserved : goal.loop-list-preserved
loop-list-preserved c =
    let lists = c.args.lists.now in
    let i = c.loop-list.list-index in
    let list = c.list-item.result in
    let within : i < length lists = rw (← c.loop-list.invariant.0) (omega (arith, c.loop-list-test.true)) in
    let is : list ≡ get_or lists i list = rw (← c.loop-list.invariant.0) c.list-item.is in
    let off : holds c.args.id list ≡ false = ap (holds c.args.id) c.list-item.is ∙ sym c.holds.ensures ∙ c.if-holds.false in
    (set-get_or c.loop-list.lists i list ∙ c.loop-list.invariant.0, find_none-more (holds c.args.id) lists i list within is c.loop-list.invariant.1 off)

pub returns-clause-after : goal.returns-clause-after
returns-clause-after c = c.loop-list.invariant.0 ∙ sym (with_holder-none made_inactive c.args.id c.args.lists.now (find_none-end (holds c.args.id) c.args.lists.now c.loop-list.list-index c.loop-list-test.false c.loop-list.auto.list-index-end c.loop-list.invariant.1))

pub returns-then-holds-clause-found : goal.returns-then-holds-clause-found
returns-then-holds-clause-found c =
    let lists = c.args.lists.now in
    let i = c.loop-list.list-index in
    let list = c.list-item.result in
    let within : i < length lists = rw (← c.loop-list.invariant.0) (omega (arith, c.loop-list-test.true)) in
    let is : list ≡ get_or lists i list = rw (← c.loop-list.invariant.0) c.list-item.is in
    let on : holds c.args.id list ≡ true = ap (holds c.args.id) c.list-item.is ∙ sym c.holds.ensures ∙ c.if-holds.true in
    rw (find-at (holds c.args.id) lists i list within is c.loop-list.invariant.1 on) refl
