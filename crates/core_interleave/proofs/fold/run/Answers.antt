use Rattle.std.proofs.Common.{◌≤◌, get_or, length, map, ap, arith}
use Rattle.bao_types.specs.Shape.{ShapeData}
use Rattle.bao_wellformed.specs.Checked.{checked_data}
use Rattle.hypervisor.specs.Event.{flat_event}
use Rattle.hypervisor.specs.declared.event.Event.TheVariants as event
use Rattle.core_interleave.proofs.Alone.{all_scheduled, ends_as_alone}
use Rattle.core_interleave.proofs.Running.{Place, Takes, ends, flat_of, one_on, starts}
use Rattle.core_interleave.proofs.fold.run.Goals as goal

pub loop-event-init : goal.loop-event-init
loop-event-init g c =
    starts (checked_data c.args.checked.now) (record { hyp = c.args.hyp.now; machine = g.B.Board.state c.args.board.now })
    (map flat_event c.args.events.now) c.requires.tidy

pub event-requires-clause-tidy : goal.event-requires-clause-tidy
event-requires-clause-tidy g c = c.loop-event.invariant.tidy

pub event-requires-clause-spent : goal.event-requires-clause-spent
event-requires-clause-spent g c =
    let shape = ap (λ (shape : ShapeData). shape.events) c.loop-event.invariant.shape in
    omega (arith, c.loop-event.invariant.spent, c.requires.spent, shape, c.loop-event-test.true)

pub loop-event-preserved : goal.loop-event-preserved
loop-event-preserved g c =
    let cfg = checked_data c.args.checked.now in let events = c.args.events.now in let n = c.loop-event.event-index in
    let start : Place = record { hyp = c.args.hyp.now; machine = g.B.Board.state c.args.board.now } in
    let now : Place = record { hyp = c.loop-event.hyp; machine = g.B.Board.state c.loop-event.board } in
    let next : Place = record { hyp = c.event.new.self; machine = g.B.Board.state c.event.new.board } in
    let takes : Takes cfg now next (flat_event (get_or events n (event.Step 0 0))) = record {
      tidy = c.event.ensures.tidy;
      state = c.event.ensures.state;
      entered = c.event.ensures.entered;
      spent = c.event.ensures.spent;
      shape = c.event.ensures.shape;
      entries = c.event.ensures.entries;
    } in
    one_on cfg start now events n c.loop-event.invariant next (event.Step 0 0) c.loop-event-test.true takes

pub returns : goal.returns
returns g c =
    let cfg = checked_data c.args.checked.now in let events = c.args.events.now in let n = c.loop-event.event-index in
    let start : Place = record { hyp = c.args.hyp.now; machine = g.B.Board.state c.args.board.now } in
    let now : Place = record { hyp = c.loop-event.hyp; machine = g.B.Board.state c.loop-event.board } in
    let end : length events ≤ n = omega (arith, c.loop-event-test.false) in
    let ran = ends cfg start now events n c.loop-event.invariant end in
    record {
      tidy = ran.tidy;
      state = ran.state;
      entered = omega (arith, ran.entered);
      alone =
          ends_as_alone cfg (flat_of cfg start) (flat_of cfg now) (map flat_event events) c.args.checked.now.well_formed
          c.args.checked.now.config.fits (all_scheduled events) ran.state;
      shape = ran.shape;
      entries = ran.entries;
    }
