use Rattle.std.proofs.Common.{rules, arith, length, ◌≤◌}
use Rattle.std.specs.Prelude.{IsErr}
use Rattle.std.proofs.lemmas.Result.{MatchResult-from_err}
use Rattle.report.proofs.Lists.{goes_past, stops_within, ends_whole, cores_next, cores_none}
use Rattle.report.proofs.section.write_cores.Goals as goal

pub returns-in_err-write_core-clause-taken : goal.returns-in_err-write_core-clause-taken
returns-in_err-write_core-clause-taken g c =
    let failed : IsErr c.from_residual.result = search rules in
    MatchResult-from_err c.from_residual.result _ _ failed
    (λ _. stops_within _ _ _ _ c.loop-j.invariant.text (g.K.Sink.taken c.write_core.new.sink) _ _
    (cores_next c.args.hyp.now.powers (g.B.Board.state c.args.board.now).cores c.args.cores.now c.loop-j.j (omega arith)) c.in_err-write_core.ensures.taken)

pub loop-j-preserved : goal.loop-j-preserved
loop-j-preserved g c =
    record {
      text =
          goes_past _ _ _ _ c.loop-j.invariant.text (g.K.Sink.taken c.write_core.new.sink) _ _
          (cores_next c.args.hyp.now.powers (g.B.Board.state c.args.board.now).cores c.args.cores.now c.loop-j.j (omega arith)) c.in_ok-write_core.ensures.taken;
      faults = search rules;
    }

pub returns-clause-taken : goal.returns-clause-taken
returns-clause-taken g c =
    let all : length c.args.cores.now ≤ c.loop-j.j = omega arith in
    ends_whole _ _ _ _ c.loop-j.invariant.text (cores_none c.args.hyp.now.powers (g.B.Board.state c.args.board.now).cores c.args.cores.now c.loop-j.j all)
