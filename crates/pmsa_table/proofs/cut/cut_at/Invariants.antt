use Rattle.std.proofs.Common.{◌≡◌, ℕ, ◌<◌, ◌≤◌, true, length, slice_index_or, All}
use Rattle.std.specs.List.{list_any}
use Rattle.bao_types.specs.ByteRange.{address_space_end}
use Rattle.pmsa_table.specs.Span.{has, IsSpan}
use Rattle.pmsa_table.proofs.cut.cut_at.Given as goal

abbrev pub invariant-loop-edge : goal.invariant-loop-edge
invariant-loop-edge l =
    record {
      room : length l.spans.items ≤ l.edge-index;
      right : All (IsSpan l.entries) l.spans.items;
      whole : (at : ℕ) → at < l.first → list_any (λ span. has span at) l.spans.items ≡ true;
      past : (k : ℕ) (d : ℕ) → k < l.edge-index → slice_index_or l.edges k d < l.first;
      bound : l.first ≤ address_space_end;
    }
