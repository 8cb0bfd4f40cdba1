use Rattle.std.proofs.Common.{◌∙◌, List, map, ap, subst}
use Rattle.outside.specs.Sink.{grown, TakesPart}
use Rattle.bao_run.specs.Ending.{text_of}
use Rattle.vm_model.specs.Flat.{Flat}
use Rattle.hypervisor.specs.Event.{flat_event}
use Rattle.hypervisor.specs.declared.event.Event.{Event}
use Rattle.bao_run.specs.Input.{input_data}
use Rattle.bao_run.proofs.Played.{final_of, run_through}
use Rattle.bao_run.proofs.top.play.Goals as goal

pub returns-in-Ok-write_ending : goal.returns-in-Ok-write_ending
returns-in-Ok-write_ending g c =
    let input = c.args.input.now in let given = input_data input in let hyp = c.run.new.hyp in let m = g.B.Board.state c.run.new.board in
    let same = ap (λ (events : List Event). map flat_event events) c.deref.ensures.value in
    let ran = c.run.ensures in
    record {
      board = run_through given _ c.in-Ok.ensures.state _ same hyp m ran.state input.packed.checked.well_formed input.packed.checked.config.fits
          ran.tidy (ran.shape ∙ c.in-Ok.ensures.shape) _ c.in-Ok.ensures.counts.0 ran.entered;
      text = (
        c.in-Ok-write_ending.ensures.taken
            ∙ ap (λ (f : Flat). grown (g.K.Sink.taken c.args.sink.now) (text_of c.args.ending given.cfg f)) (final_of given _ c.in-Ok.ensures.state _ same hyp m ran.state),
        c.in-Ok-write_ending.ensures.cause,
      );
    }

pub returns-in-Err-write_ending : goal.returns-in-Err-write_ending
returns-in-Err-write_ending g c =
    let input = c.args.input.now in let given = input_data input in let hyp = c.run.new.hyp in let m = g.B.Board.state c.run.new.board in
    let same = ap (λ (events : List Event). map flat_event events) c.deref.ensures.value in
    let ran = c.run.ensures in
    record {
      board = run_through given _ c.in-Ok.ensures.state _ same hyp m ran.state input.packed.checked.well_formed input.packed.checked.config.fits
          ran.tidy (ran.shape ∙ c.in-Ok.ensures.shape) _ c.in-Ok.ensures.counts.0 ran.entered;
      text = (
        subst (λ (f : Flat). TakesPart (g.K.Sink.taken c.args.sink.now) (g.K.Sink.taken c.write_ending.new.sink) (text_of c.args.ending given.cfg f))
            (final_of given _ c.in-Ok.ensures.state _ same hyp m ran.state) c.in-Err-write_ending.ensures.taken,
        c.in-Err-write_ending.ensures.cause,
      );
    }
