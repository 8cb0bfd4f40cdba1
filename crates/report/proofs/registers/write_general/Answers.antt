use Rattle.std.proofs.Common.{rules, arith, length, ◌≤◌}
use Rattle.std.specs.Prelude.{IsErr}
use Rattle.std.proofs.lemmas.Result.{MatchResult-from_err}
use Rattle.report.proofs.Texts.{general_stops, general_ends}
use Rattle.report.proofs.registers.write_general.Goals as goal

pub returns-in_err-put_x-clause-taken : goal.returns-in_err-put_x-clause-taken
returns-in_err-put_x-clause-taken g c =
    let failed : IsErr c.from_residual.result = search rules in
    MatchResult-from_err c.from_residual.result _ _ failed
    (λ _. general_stops (g.K.Sink.taken c.args.sink.now) (g.K.Sink.taken c.loop-n.sink) c.args.values.now c.loop-n.n
    (g.K.Sink.taken c.put_x.new.sink) (omega arith) c.loop-n.invariant.text c.in_err-put_x.ensures.taken)

pub returns-clause-taken : goal.returns-clause-taken
returns-clause-taken g c =
    let all : length c.args.values.now ≤ c.loop-n.n = omega arith in
    general_ends (g.K.Sink.taken c.args.sink.now) (g.K.Sink.taken c.loop-n.sink) c.args.values.now c.loop-n.n all
    c.loop-n.invariant.text
