use Rattle.std.proofs.Common.{rules, arith, length, ◌≤◌}
use Rattle.std.specs.Prelude.{IsErr}
use Rattle.std.proofs.lemmas.Result.{MatchResult-from_err}
use Rattle.report.proofs.Lists.{goes_past, stops_within, ends_whole, entries_next, entries_none}
use Rattle.report.proofs.packing.write_entries.Goals as goal

pub returns-in_err-put_entry-clause-taken : goal.returns-in_err-put_entry-clause-taken
returns-in_err-put_entry-clause-taken g c =
    let failed : IsErr c.from_residual.result = search rules in
    MatchResult-from_err c.from_residual.result _ _ failed
    (λ _. stops_within _ _ _ _ c.loop-i.invariant.text (g.K.Sink.taken c.put_entry.new.sink) _ _
    (entries_next c.args.entries.now c.loop-i.i _ (omega arith) (search rules)) c.in_err-put_entry.ensures.taken)

pub loop-i-preserved : goal.loop-i-preserved
loop-i-preserved g c = record {
  text =
      goes_past _ _ _ _ c.loop-i.invariant.text (g.K.Sink.taken c.put_entry.new.sink) _ _
      (entries_next c.args.entries.now c.loop-i.i _ (omega arith) (search rules)) c.in_ok-put_entry.ensures.taken;
  faults = search rules;
}

pub returns-clause-taken : goal.returns-clause-taken
returns-clause-taken g c =
    let all : length c.args.entries.now ≤ c.loop-i.i = omega arith in
    ends_whole _ _ _ _ c.loop-i.invariant.text (entries_none c.args.entries.now c.loop-i.i all)
