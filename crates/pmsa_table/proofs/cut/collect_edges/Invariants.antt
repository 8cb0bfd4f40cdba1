use Rattle.std.proofs.Common.{◌≡◌, ◌*◌, ◌<◌, ◌≤◌, length, take, All}
use Rattle.bao_types.specs.ByteRange.{address_space_end}
use Rattle.pmsa_table.specs.Edges.{all_edges}
use Rattle.pmsa_table.proofs.cut.collect_edges.Given as goal

abbrev pub invariant-loop-entry : goal.invariant-loop-entry
invariant-loop-entry l =
    (l.edges.items ≡ all_edges (take l.entry-index l.entries))
    × (length l.edges.items ≤ 2 * l.entry-index)
    × All (λ edge. edge < address_space_end) l.edges.items
