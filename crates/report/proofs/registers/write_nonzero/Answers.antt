use Rattle.std.proofs.Common.{rules, arith, length, ◌≤◌}
use Rattle.std.specs.Prelude.{IsErr}
use Rattle.std.proofs.lemmas.Result.{MatchResult-from_err}
use Rattle.report.proofs.Lists.{goes_past, stops_within, ends_whole, registers_next, registers_none}
use Rattle.report.proofs.registers.write_nonzero.Goals as goal

pub returns-in_err-put_nonzero-clause-taken : goal.returns-in_err-put_nonzero-clause-taken
returns-in_err-put_nonzero-clause-taken g c =
    let failed : IsErr c.from_residual.result = search rules in
    MatchResult-from_err c.from_residual.result _ _ failed
    (λ _. stops_within _ _ _ _ c.loop-register.invariant.text (g.K.Sink.taken c.put_nonzero.new.sink) _ _
    (registers_next _ c.args.registers.now c.loop-register.register-index _ (omega arith)) c.in_err-put_nonzero.ensures.taken)

pub loop-register-preserved : goal.loop-register-preserved
loop-register-preserved g c = record {
  text =
      goes_past _ _ _ _ c.loop-register.invariant.text (g.K.Sink.taken c.put_nonzero.new.sink) _ _
      (registers_next _ c.args.registers.now c.loop-register.register-index _ (omega arith)) c.in_ok-put_nonzero.ensures.taken;
  faults = search rules;
}

pub returns-clause-taken : goal.returns-clause-taken
returns-clause-taken g c =
    let all : length c.args.registers.now ≤ c.loop-register.register-index = omega arith in
    ends_whole _ _ _ _ c.loop-register.invariant.text (registers_none _ c.args.registers.now c.loop-register.register-index all)
