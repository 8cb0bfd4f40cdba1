use Rattle.std.proofs.Common.{rules, arith, length, ◌≤◌}
use Rattle.std.specs.Prelude.{IsErr}
use Rattle.std.proofs.lemmas.Result.{MatchResult-from_err}
use Rattle.board.specs.Ports.{outputs}
use Rattle.report.proofs.Lists.{goes_past, stops_within, ends_whole, consoles_next, consoles_none}
use Rattle.report.proofs.section.write_consoles.Goals as goal

pub returns-in_err-write_console_of-clause-taken : goal.returns-in_err-write_console_of-clause-taken
returns-in_err-write_console_of-clause-taken g c =
    let console = (outputs (g.B.Board.state c.args.board.now).ports) in
    let failed : IsErr c.from_residual.result = search rules in
    MatchResult-from_err c.from_residual.result _ _ failed
    (λ _. stops_within _ _ _ _ c.loop-dev.invariant.text (g.K.Sink.taken c.write_console_of.new.sink) _ _
    (consoles_next console c.args.devs.now c.loop-dev.dev-index _ (omega arith) (search rules))
    c.in_err-write_console_of.ensures.taken)

pub loop-dev-preserved : goal.loop-dev-preserved
loop-dev-preserved g c =
    let console = (outputs (g.B.Board.state c.args.board.now).ports) in
    record {
      text =
          goes_past _ _ _ _ c.loop-dev.invariant.text (g.K.Sink.taken c.write_console_of.new.sink) _ _
          (consoles_next console c.args.devs.now c.loop-dev.dev-index _ (omega arith) (search rules))
          c.in_ok-write_console_of.ensures.taken;
      faults = search rules;
    }

pub returns-clause-taken : goal.returns-clause-taken
returns-clause-taken g c =
    let console = (outputs (g.B.Board.state c.args.board.now).ports) in
    let all : length c.args.devs.now ≤ c.loop-dev.dev-index = omega arith in
    ends_whole _ _ _ _ c.loop-dev.invariant.text (consoles_none console c.args.devs.now c.loop-dev.dev-index all)
