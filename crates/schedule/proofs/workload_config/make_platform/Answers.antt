use Rattle.std.proofs.Common.{◌≡◌, ℕ, length, refl, ap, ◌∙◌, arith}
use Rattle.schedule.specs.Workload.{port_at}
use Rattle.schedule.proofs.Counts.{length_below}
use Rattle.schedule.proofs.Drawn.{one_more}
use Rattle.schedule.proofs.workload_config.make_platform.Goals as goal

pub push-requires-in-loop-v : goal.push-requires-in-loop-v
push-requires-in-loop-v c =
    let size : length c.loop-v.cores.items ≡ c.loop-v.v = ap length c.loop-v.invariant.cores ∙ length_below (λ (core : ℕ). 16) c.loop-v.v in
    (omega arith, omega (arith, size, c.loop-v-test.true, c.requires))

pub push-requires-in-loop-v-2 : goal.push-requires-in-loop-v-2
push-requires-in-loop-v-2 c =
    let size : length c.loop-v.ports.items ≡ c.loop-v.v = ap length c.loop-v.invariant.ports ∙ length_below port_at c.loop-v.v in
    (omega arith, omega (arith, size, c.loop-v-test.true, c.requires))

pub loop-v-preserved : goal.loop-v-preserved
loop-v-preserved c =
    record {
      cores = c.push-in-loop-v.ensures.items ∙ one_more (λ (core : ℕ). 16) c.loop-v.v c.loop-v.cores.items 16 c.loop-v.invariant.cores refl;
      ports = c.push-in-loop-v-2.ensures.items ∙ one_more port_at c.loop-v.v c.loop-v.ports.items c.port_at.result c.loop-v.invariant.ports c.port_at.ensures;
    }
