use Rattle.std.proofs.Common.{◌≡◌, length, ◌∙◌, ap}
use Rattle.std.proofs.lemmas.List.Sorted.{IsNonDecreasingBy-from_sort}
use Rattle.pmsa_table.proofs.Wholes.{refill_same}
use Rattle.pmsa_table.proofs.cut.sort_edges.Goals as goal

pub returns-clause-permutation : goal.returns-clause-permutation
returns-clause-permutation c =
    let same : length c.sort_unstable.new.self ≡ length c.args.edges.now.items
    = c.sort_unstable.ensures.len ∙ ap length c.deref_mut.ensures.value in
    rw (refill_same c.args.edges.now.items c.sort_unstable.new.self same)
    (rw c.deref_mut.ensures.value at c.sort_unstable.ensures.permutation)

pub returns-clause-sorted : goal.returns-clause-sorted
returns-clause-sorted c =
    let same : length c.sort_unstable.new.self ≡ length c.args.edges.now.items
    = c.sort_unstable.ensures.len ∙ ap length c.deref_mut.ensures.value in
    rw (refill_same c.args.edges.now.items c.sort_unstable.new.self same)
    (IsNonDecreasingBy-from_sort (λ x. x) c.sort_unstable.new.self c.sort_unstable.ensures.sorted)
