use Rattle.std.proofs.Common.{inl, All, arith}
use Rattle.std.proofs.lemmas.List.Elements.{All-push}
use Rattle.pmsa_table.specs.Span.{IsSpan}
use Rattle.pmsa_table.specs.Edges.{IsBeside}
use Rattle.pmsa_table.proofs.Alike.{judged_is_span}
use Rattle.pmsa_table.proofs.Wholes.{whole_pushed}
use Rattle.pmsa_table.proofs.cut.cut_at.Goals as goal

pub returns : goal.returns
returns c =
    let past : All (IsBeside c.loop-edge.first 18446744073709551615) c.args.edges.now
    = λ k d in'. inl (c.loop-edge.invariant.past k d (omega arith)) in
    rw c.push.ensures.items
    (record {
      right =
          All-push (IsSpan c.args.entries.now) c.loop-edge.spans.items c.judged_at_last.result c.loop-edge.invariant.right
          (judged_is_span c.args.entries.now c.judged_at_last.result
          (rw (c.judged_at_last.ensures.first, c.judged_at_last.ensures.last)
          (c.requires.complete c.loop-edge.first 18446744073709551615 past))
          (rw c.judged_at_last.ensures.last c.judged_at_last.ensures.read)
          (rw c.judged_at_last.ensures.last c.judged_at_last.ensures.write)
          (rw c.judged_at_last.ensures.last c.judged_at_last.ensures.exec));
      whole =
          λ at bound.
          whole_pushed c.loop-edge.spans.items c.judged_at_last.result at
          (λ before. c.loop-edge.invariant.whole at (rw c.judged_at_last.ensures.first at before))
          (rw c.judged_at_last.ensures.last (omega arith));
    })
