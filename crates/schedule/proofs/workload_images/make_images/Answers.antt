use Rattle.std.proofs.Common.{◌≡◌, List, [], ◌∷◌, ◌++◌, rules, ℕ, Vec, Global, map, ap, ◌∙◌}
use Rattle.schedule.specs.Workload.{image_at, next_state}
use Rattle.schedule.proofs.Drawn.{image_next, one_more_seen, state_none, state_two_more}
use Rattle.schedule.proofs.workload_images.make_images.Goals as goal

abbrev bytes_in : Vec ℕ Global → List ℕ
bytes_in image = image.items

pub loop-v-init : goal.loop-v-init
loop-v-init c = record { images = ap (map bytes_in) c.new-images.ensures.items; state = state_none c.args.numbers.now.state }

pub loop-v-preserved : goal.loop-v-preserved
loop-v-preserved c =
    let pushed : c.push.new.self.items ≡ c.loop-v.images.items ++ c.in_ok-image.image ∷ [] = search rules in
    record {
      images = ap (map bytes_in) pushed
          ∙ one_more_seen bytes_in (image_at c.args.numbers.now.state) c.loop-v.v c.loop-v.images.items c.in_ok-image.image c.loop-v.invariant.images
          (c.in_ok-image.ensures.image ∙ image_next c.args.numbers.now.state c.loop-v.v c.loop-v.numbers.state c.loop-v.invariant.state);
      state = c.make_image.ensures.state ∙ ap (λ s. next_state (next_state s)) c.loop-v.invariant.state ∙ state_two_more c.args.numbers.now.state c.loop-v.v;
    }
