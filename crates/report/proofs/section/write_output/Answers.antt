use Rattle.std.proofs.Common.{rules, subst, arith, length, ◌≤◌}
use Rattle.std.specs.Prelude.{IsErr}
use Rattle.std.proofs.lemmas.Result.{MatchResult-from_err}
use Rattle.numerals.specs.Hex.{hex}
use Rattle.outside.specs.Sink.{TakesPart}
use Rattle.board.specs.Ports.{outputs}
use Rattle.report.proofs.Texts.{bytes_stop, bytes_end}
use Rattle.report.proofs.section.write_output.Goals as goal

pub returns-in_err-put_byte-clause-taken : goal.returns-in_err-put_byte-clause-taken
returns-in_err-put_byte-clause-taken g c =
    let failed : IsErr c.from_residual.result = search rules in
    MatchResult-from_err c.from_residual.result _ _ failed
    (λ _. bytes_stop (g.K.Sink.taken c.args.sink.now) (g.K.Sink.taken c.loop-i.sink)
    (outputs (g.B.Board.state c.args.board.now).ports c.args.port) c.loop-i.i
    (g.K.Sink.taken c.put_byte.new.sink) (omega arith) c.loop-i.invariant.text
    (subst (λ b. TakesPart (g.K.Sink.taken c.loop-i.sink) (g.K.Sink.taken c.put_byte.new.sink) (hex 2 b)) c.port_byte.ensures
    c.in_err-put_byte.ensures.taken))

pub returns-clause-taken : goal.returns-clause-taken
returns-clause-taken g c =
    let all : length (outputs (g.B.Board.state c.args.board.now).ports c.args.port) ≤ c.loop-i.i = omega arith in
    bytes_end (g.K.Sink.taken c.args.sink.now) (g.K.Sink.taken c.loop-i.sink)
    (outputs (g.B.Board.state c.args.board.now).ports c.args.port) c.loop-i.i all c.loop-i.invariant.text
