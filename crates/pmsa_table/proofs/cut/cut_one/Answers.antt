use Rattle.std.proofs.lemmas.List.Elements.{All-push}
use Rattle.pmsa_table.specs.Span.{IsSpan}
use Rattle.pmsa_table.proofs.Alike.{judged_is_span}
use Rattle.pmsa_table.proofs.cut.cut_one.Goals as goal

pub returns-clause-right : goal.returns-clause-right
returns-clause-right c all =
    rw c.push.ensures.items
    (All-push (IsSpan c.args.entries.now) c.args.spans.now.items c.judged_at_last.result all
    (judged_is_span c.args.entries.now c.judged_at_last.result
    (rw (c.judged_at_last.ensures.first, c.judged_at_last.ensures.last)
    (c.requires.complete c.args.first c.args.edge c.requires.beside))
    (rw c.judged_at_last.ensures.last c.judged_at_last.ensures.read)
    (rw c.judged_at_last.ensures.last c.judged_at_last.ensures.write)
    (rw c.judged_at_last.ensures.last c.judged_at_last.ensures.exec)))
