use Rattle.std.proofs.Common.{◌≤◌, ◌+◌, ◌/◌, rules, refl, arith}
use Rattle.std.specs.Prelude.{IsErr}
use Rattle.std.proofs.lemmas.Result.{MatchResult-from_err}
use Rattle.bao_wellformed.specs.ByteRules.{kind_in}
use Rattle.report.specs.Section.{all_groups}
use Rattle.report.proofs.Lists.{goes_past, stops_within, ends_whole}
use Rattle.report.proofs.Memory.{memory_next, memory_end}
use Rattle.report.proofs.section.write_memory.Goals as goal

pub returns-in_err-write_alike-clause-taken : goal.returns-in_err-write_alike-clause-taken
returns-in_err-write_alike-clause-taken g c =
    let bound = c.next_change.result in
    let low : (bound + 15) / 16 ≤ all_groups = omega (arith, c.next_change.ensures.space) in
    let failed : IsErr c.from_residual.result = search rules in
    MatchResult-from_err c.from_residual.result _ _ failed
    (λ _. stops_within _ _ _ _ c.loop-group.invariant.text (g.K.Sink.taken c.write_alike.new.sink) _ _
    (memory_next (kind_in c.args.map.now) (g.B.Board.state c.args.board.now).bytes c.loop-group.group ((bound + 15) / 16) bound
    c.kind_in.result c.next_change.ensures.above refl low c.kind_in.ensures c.next_change.ensures.alike)
    c.in_err-write_alike.ensures.taken)

pub loop-group-preserved : goal.loop-group-preserved
loop-group-preserved g c =
    let bound = c.next_change.result in
    let low : (bound + 15) / 16 ≤ all_groups = omega (arith, c.next_change.ensures.space) in
    record {
      text =
          goes_past _ _ _ _ c.loop-group.invariant.text (g.K.Sink.taken c.write_alike.new.sink) _ _
          (memory_next (kind_in c.args.map.now) (g.B.Board.state c.args.board.now).bytes c.loop-group.group ((bound + 15) / 16) bound
          c.kind_in.result c.next_change.ensures.above refl low c.kind_in.ensures c.next_change.ensures.alike)
          c.in_ok-write_alike.ensures.taken;
      low = low;
      faults = search rules;
    }

pub returns-clause-taken : goal.returns-clause-taken
returns-clause-taken g c =
    ends_whole _ _ _ _ c.loop-group.invariant.text
    (memory_end (kind_in c.args.map.now) (g.B.Board.state c.args.board.now).bytes _ _ (omega (arith, c.loop-group-test.false)))
