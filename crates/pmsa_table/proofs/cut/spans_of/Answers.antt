use Rattle.std.proofs.Common.{◌<◌, sym}
use Rattle.std.proofs.lemmas.List.Sorted.{All-permutation, IsPermutation-sym}
use Rattle.std.proofs.lemmas.List.Elements.{All-same}
use Rattle.bao_types.specs.ByteRange.{address_space_end}
use Rattle.pmsa_table.specs.Edges.{IsBeside}
use Rattle.pmsa_table.proofs.cut.spans_of.Goals as goal

pub cut_at-requires-clause-low : goal.cut_at-requires-clause-low
cut_at-requires-clause-low c =
    All-same (λ edge. edge < address_space_end) _ _ c.as_slice.ensures.value
    (All-permutation (λ edge. edge < address_space_end) _ _ c.sort_edges.ensures.permutation c.collect_edges-edges.ensures.low)

pub cut_at-requires-clause-complete : goal.cut_at-requires-clause-complete
cut_at-requires-clause-complete c first last beside =
    All-same (IsBeside first last) _ _ (sym c.collect_edges-edges.ensures.items)
    (All-permutation (IsBeside first last) _ _ (IsPermutation-sym _ _ c.sort_edges.ensures.permutation)
    (All-same (IsBeside first last) _ _ (sym c.as_slice.ensures.value) beside))
