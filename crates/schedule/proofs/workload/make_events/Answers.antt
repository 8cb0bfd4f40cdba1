use Rattle.std.proofs.Common.{◌≡◌, ◌/◌, ◌^◌, [], ◌∷◌, ◌++◌, rules, ap, ◌∙◌, arith}
use Rattle.schedule.specs.Workload.{event_with, draws, next_state}
use Rattle.schedule.proofs.Drawn.{all_events, one_more, state_more, state_none}
use Rattle.schedule.proofs.workload.make_events.Goals as goal

pub loop-number-init : goal.loop-number-init
loop-number-init c = record { events = c.new-events.ensures.items; state = state_none c.args.numbers.now.state }

pub loop-number-preserved : goal.loop-number-preserved
loop-number-preserved c =
    let pushed : c.push.new.self.items ≡ c.loop-number.events.items ++ c.event_with-event.result ∷ [] = search rules in
    record {
      events = pushed
          ∙ one_more (λ number. event_with c.args.count number (draws c.args.numbers.now.state number)) c.loop-number.number c.loop-number.events.items
          c.event_with-event.result c.loop-number.invariant.events
          (c.event_with-event.ensures
          ∙ ap (event_with c.args.count c.loop-number.number) (c.draw.ensures.number ∙ ap (λ s. next_state s / 2 ^ 33) c.loop-number.invariant.state));
      state = c.draw.ensures.state ∙ ap next_state c.loop-number.invariant.state ∙ state_more c.args.numbers.now.state c.loop-number.number;
    }

pub returns : goal.returns
returns c =
    all_events (λ number. event_with c.args.count number (draws c.args.numbers.now.state number)) c.loop-number.number c.loop-number.events.items
    c.loop-number.invariant.events (omega (arith, c.loop-number-test.false, c.loop-number.auto.number-end))
