use Rattle.std.proofs.Common.{◌≡◌, ◌*◌, map}
use Rattle.schedule.specs.Workload.{for_each_below, image_at, state_after}
use Rattle.schedule.proofs.workload_images.make_images.Given as goal

abbrev pub invariant-loop-v : goal.invariant-loop-v
invariant-loop-v l =
    record {
      images : map (λ image. image.items) l.images.items ≡ for_each_below l.v (image_at l.fn.numbers.state);
      state : l.numbers.state ≡ state_after l.fn.numbers.state (2 * l.v);
    }
