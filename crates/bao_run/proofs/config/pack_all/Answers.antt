use Rattle.std.proofs.Common.{◌≡◌, ◌++◌, ◌∷◌, [], ℕ, List, slice_get, Some, rules, sym, subst}
use Rattle.bao_wellformed.specs.Checked.{checked_data}
use Rattle.mpu_packer.specs.declared.entries.Plan.{Plan}
use Rattle.vm_create.specs.Boot.{IsPlanOf}
use Rattle.bao_run.proofs.Packs.{overfull, passes_more, plan_more}
use Rattle.bao_run.proofs.config.pack_all.Goals as goal

pub returns-in-Err-clause-overfull : goal.returns-in-Err-clause-overfull
returns-in-Err-clause-overfull c =
    overfull (checked_data c.args.checked.now) c.loop-core.core c.loop-core.invariant.passes c.in-Err.fault c.in-Err.ensures.refused c.in-Err.ensures.counted

pub loop-core-preserved : goal.loop-core-preserved
loop-core-preserved c =
    let cfg = checked_data c.args.checked.now in
    let well_formed = c.args.checked.now.well_formed in
    let pushed : c.push.new.self.items ≡ c.loop-core.plans.items ++ c.in-Ok.plan ∷ [] = search rules in
    let plan : IsPlanOf cfg c.loop-core.core c.in-Ok.plan = record { packing = c.in-Ok.ensures.packing; realises = c.in-Ok.ensures.realises } in
    record {
      each = subst (λ (plans : List Plan). (core : ℕ) (plan : Plan) → slice_get plans core ≡ Some plan → IsPlanOf cfg core plan) (sym pushed)
          (plan_more cfg c.loop-core.plans.items c.in-Ok.plan c.loop-core.invariant.each
          (subst (λ core. IsPlanOf cfg core c.in-Ok.plan) (sym c.loop-core.invariant.count) plan));
      count = search rules;
      passes = passes_more cfg c.loop-core.core c.loop-core.invariant.passes well_formed c.in-Ok.plan c.in-Ok.ensures.packing;
    }
