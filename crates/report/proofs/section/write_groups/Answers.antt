use Rattle.std.proofs.Common.{◌≡◌, rules, arith, ◌+◌, ◌-◌, subst}
use Rattle.std.specs.Prelude.{IsErr}
use Rattle.std.proofs.lemmas.Result.{MatchResult-from_err}
use Rattle.report.specs.Groups.{groups_text}
use Rattle.report.proofs.Texts.{groups_go_on, groups_stop, groups_end}
use Rattle.report.proofs.Progress.{IsUnderWay}
use Rattle.report.proofs.section.write_groups.Goals as goal

pub returns-in_err-write_group-clause-taken : goal.returns-in_err-write_group-clause-taken
returns-in_err-write_group-clause-taken g c =
    let failed : IsErr c.from_residual.result = search rules in
    MatchResult-from_err c.from_residual.result _ _ failed
    (λ _. groups_stop (g.K.Sink.taken c.args.sink.now) (g.K.Sink.taken c.loop-i.sink)
    (g.B.Board.state c.args.board.now).bytes
    (groups_text (g.B.Board.state c.args.board.now).bytes c.args.groups c.args.first)
    (c.args.groups - c.loop-i.i) c.loop-i.at
    (g.K.Sink.taken c.write_group.new.sink) (omega arith) c.loop-i.invariant.text c.in_err-write_group.ensures.taken)

pub loop-i-preserved : goal.loop-i-preserved
loop-i-preserved g c = record {
  text =
      let fewer : (c.args.groups - c.loop-i.i) - 1 ≡ c.args.groups - (c.loop-i.i + 1) = omega arith in
      subst (λ n. IsUnderWay (g.K.Sink.taken c.args.sink.now) (g.K.Sink.taken c.write_group.new.sink)
      (groups_text (g.B.Board.state c.args.board.now).bytes c.args.groups c.args.first)
      (groups_text (g.B.Board.state c.args.board.now).bytes n (c.loop-i.at + 16))) fewer
      (groups_go_on (g.K.Sink.taken c.args.sink.now) (g.K.Sink.taken c.loop-i.sink)
      (g.B.Board.state c.args.board.now).bytes
      (groups_text (g.B.Board.state c.args.board.now).bytes c.args.groups c.args.first)
      (c.args.groups - c.loop-i.i) c.loop-i.at
      (g.K.Sink.taken c.write_group.new.sink) (omega arith) c.loop-i.invariant.text c.in_ok-write_group.ensures.taken);
  place = omega arith;
  faults = search rules;
}

pub returns-clause-taken : goal.returns-clause-taken
returns-clause-taken g c =
    let all : c.args.groups - c.loop-i.i ≡ 0 = omega arith in
    groups_end (g.K.Sink.taken c.args.sink.now) (g.K.Sink.taken c.loop-i.sink)
    (g.B.Board.state c.args.board.now).bytes
    (groups_text (g.B.Board.state c.args.board.now).bytes c.args.groups c.args.first)
    (c.args.groups - c.loop-i.i) c.loop-i.at all c.loop-i.invariant.text
