use Rattle.std.proofs.Common.{◌≡◌}
use Rattle.schedule.specs.Workload.{draws, event_with, for_each_below, state_after}
use Rattle.schedule.proofs.workload.make_events.Given as goal

abbrev pub invariant-loop-number : goal.invariant-loop-number
invariant-loop-number l =
    record {
      events : l.events.items ≡ for_each_below l.number (λ number. event_with l.count number (draws l.fn.numbers.state number));
      state : l.numbers.state ≡ state_after l.fn.numbers.state l.number;
    }
