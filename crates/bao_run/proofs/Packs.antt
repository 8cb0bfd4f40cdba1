-- The packings of the cores, one after the other.
use Rattle.std.proofs.Common.{◌≡◌, ℕ, zero, suc, ◌+◌, List, [], ◌∷◌, ◌++◌, length, drop, Some, slice_get, sym, subst, ap, ◌∙◌, arith, drop-cons, add-one}
use Rattle.std.proofs.lemmas.Option.{get_or_from_slice_get, slice_get_within}
use Rattle.bao_config.specs.Data.{ConfigData}
use Rattle.bao_wellformed.specs.WellFormed.{IsWellFormed}
use Rattle.mpu_packer.specs.declared.packing.PackError.{PackError}
use Rattle.mpu_packer.specs.declared.packing.PackError.TheVariants as pack
use Rattle.mpu_packer.specs.declared.entries.Plan.{Plan}
use Rattle.mpu_packer.specs.Plan.{IsPacking, TellsTooMany, CountsRuns}
use Rattle.mpu_packer.proofs.Exact.{runs_fit}
use Rattle.vm_create.specs.Boot.{IsPlanOf}
use Rattle.bao_run.specs.Ruling.{Ruling, rule_packing}
use Rattle.bao_run.specs.Reading.{IsOverfull}
use Rattle.bao_run.proofs.Rules.{core_passes, core_stops}

-- the entries of a core are the first of those that are left
here : (counts : List ℕ) (core most : ℕ) → slice_get counts core ≡ Some most → drop core counts ≡ most ∷ drop (core + 1) counts
here counts core most is =
    rw add-one
    (drop-cons counts core most (slice_get_within counts core most is)
    ∙ ap (λ n. n ∷ drop (suc core) counts) (get_or_from_slice_get counts core most most is))

module _ (cfg : ConfigData) (core : ℕ)
    (passes : (next : Ruling) → rule_packing next cfg 0 cfg.platform.cores ≡ rule_packing next cfg core (drop core cfg.platform.cores)) where
  pub overfull : (fault : PackError) → TellsTooMany cfg core fault → CountsRuns cfg core fault → IsOverfull cfg core fault
  overfull (pack.TooMany runs entries) many counted =
      λ next. passes next ∙ ap (rule_packing next cfg core) (here cfg.platform.cores core entries many.of_platform)
      ∙ core_stops next cfg core entries runs (drop (core + 1) cfg.platform.cores) counted many.too_many
  overfull pack.OutOfMemory many counted = tt

  module _ (well_formed : IsWellFormed cfg) (plan : Plan) (packing : IsPacking cfg core plan) where
    pub passes_more : (next : Ruling) → rule_packing next cfg 0 cfg.platform.cores ≡ rule_packing next cfg (core + 1) (drop (core + 1) cfg.platform.cores)
    passes_more next =
        passes next ∙ ap (rule_packing next cfg core) (here cfg.platform.cores core packing.most packing.of_platform)
        ∙ core_passes next cfg core packing.most (drop (core + 1) cfg.platform.cores) (runs_fit cfg core well_formed plan packing)

pub plan_more : (cfg : ConfigData) (plans : List Plan) (last : Plan) → ((core : ℕ) (plan : Plan) → slice_get plans core ≡ Some plan → IsPlanOf cfg core plan)
    → IsPlanOf cfg (length plans) last → (core : ℕ) (plan : Plan) → slice_get (plans ++ last ∷ []) core ≡ Some plan → IsPlanOf cfg core plan
plan_more cfg plans last each it core plan is =
    let here : 0 + core ≡ core = omega arith in
    let end : 0 + length plans ≡ length plans = omega arith in
    subst (λ n. IsPlanOf cfg n plan) here
    (at plans core 0 is (λ k p got. let place : 0 + k ≡ k = omega arith in subst (λ n. IsPlanOf cfg n p) (sym place) (each k p got))
    (subst (λ n. IsPlanOf cfg n last) (sym end) it))
  where
    at : (plans : List Plan) (core n : ℕ) → slice_get (plans ++ last ∷ []) core ≡ Some plan
        → ((k : ℕ) (p : Plan) → slice_get plans k ≡ Some p → IsPlanOf cfg (n + k) p) → IsPlanOf cfg (n + length plans) last → IsPlanOf cfg (n + core) plan
    at [] zero n is each it = let same : last ≡ plan = cc in subst (λ p. IsPlanOf cfg (n + 0) p) same it
    at [] (suc core) n is each it = cc
    at (first ∷ plans) zero n is each it = each 0 plan is
    at (first ∷ plans) (suc core) n is each it =
        let place : n + 1 + core ≡ n + suc core = omega arith in
        let last' : n + 1 + length plans ≡ n + suc (length plans) = omega arith in
        subst (λ k. IsPlanOf cfg k plan) place
        (at plans core (n + 1) is (λ k p got. let there : n + suc k ≡ n + 1 + k = omega arith in subst (λ m. IsPlanOf cfg m p) there (each (suc k) p got))
        (subst (λ m. IsPlanOf cfg m last) (sym last') it))
