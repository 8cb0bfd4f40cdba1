use Rattle.schedule.proofs.Drawn.{events_are}
use Rattle.schedule.proofs.workload.make_workload.Goals as goal

pub returns-clause-events : goal.returns-clause-events
returns-clause-events c =
    events_are c.args.n c.from.result c.make_images.new.numbers.state c.in_ok-events.events.items c.from.ensures c.in_ok-images.ensures.state c.in_ok-events.ensures
