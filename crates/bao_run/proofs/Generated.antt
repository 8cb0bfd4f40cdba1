-- The workload of a number is made and packed, but for want of memory.
use Rattle.std.proofs.Common.{◌≡◌, ℕ, suc, ◌+◌, ◌≤◌, List, [], ◌∷◌, All, map, length, refl, sym, ap, subst, ◌∙◌, arith}
use Rattle.std.specs.Prelude.{None, Some, slice_get}
use Rattle.bao_config.specs.Data.{ConfigData}
use Rattle.bao_types.specs.Shape.{event_limit}
use Rattle.bao_wellformed.specs.Break.{first}
use Rattle.bao_wellformed.specs.Checked.{TellsFirst, checked_data}
use Rattle.bao_wellformed.specs.WellFormed.{first_ill}
use Rattle.bao_wellformed.specs.declared.checked.CheckError.TheVariants.{Ill}
use Rattle.bao_wellformed.specs.declared.ill.Ill as ill
use Rattle.hypervisor.specs.Event.{flat_event, IsPlaced}
use Rattle.hypervisor.specs.declared.event.Event.{Event}
use Rattle.mpu_packer.specs.declared.packing.PackError.TheVariants as pack
use Rattle.mpu_packer.specs.Runs.{core_runs}
use Rattle.report.specs.declared.status.Status.TheVariants as status
use Rattle.schedule.specs.Lawful.{IsLawful}
use Rattle.schedule.specs.Workload.{workload_config, workload_events, workload_images}
use Rattle.schedule.proofs.WorkloadEvents.{lawful}
use Rattle.schedule.proofs.WorkloadRooms.{rooms}
use Rattle.schedule.proofs.WorkloadRules.{well_formed}
use Rattle.schedule.proofs.WorkloadRuns.{few_runs}
use Rattle.vm_create.specs.Boot.{ArePlans}
use Rattle.vm_model.specs.Apart.{FitRooms}
use Rattle.bao_run.specs.Input.{IsWorkload}
use Rattle.bao_run.specs.Reading.{IsOverfull}
use Rattle.bao_run.specs.Ruling.{Ruling, Refused, Shown, rule_packing}
use Rattle.bao_run.specs.declared.input.Input.{Input}
use Rattle.bao_run.proofs.Rules.{core_passes}

-- its configuration breaks no rule
pub breaks_none : (n : ℕ) (cfg : ConfigData) (why : ill.Ill) → cfg ≡ workload_config n → TellsFirst cfg (Ill why) → ⊥
breaks_none n cfg why is told =
    let none : first_ill cfg ≡ None = ap first_ill is ∙ ap first (well_formed n) in
    let clash : None ≡ Some why = sym none ∙ told in cc

-- cores whose runs all fit pass
passes_all : (next : Ruling) (cfg : ConfigData) (core : ℕ) (counts : List ℕ)
    → ((k most : ℕ) → slice_get counts k ≡ Some most → length (core_runs cfg (core + k)) ≤ most)
    → rule_packing next cfg core counts ≡ next
passes_all next cfg core [] fit = refl
passes_all next cfg core (most ∷ counts) fit =
    let here : core + 0 ≡ core = omega arith in
    core_passes next cfg core most counts (subst (λ c. length (core_runs cfg c) ≤ most) here (fit 0 most refl))
    ∙ passes_all next cfg (core + 1) counts (λ k m got.
    let there : core + suc k ≡ core + 1 + k = omega arith in
    subst (λ c. length (core_runs cfg c) ≤ m) there (fit (suc k) m got))

-- no core has too many runs
pub packs_all : (n : ℕ) (cfg : ConfigData) (core runs entries : ℕ) → cfg ≡ workload_config n
    → IsOverfull cfg core (pack.TooMany runs entries) → ⊥
packs_all n cfg core runs entries is over =
    let own = workload_config n in
    let passed : rule_packing (Shown own) own 0 own.platform.cores ≡ Shown own =
    passes_all (Shown own) own 0 own.platform.cores (λ k most got.
    let place : k ≡ 0 + k = omega arith in subst (λ c. length (core_runs own c) ≤ most) place (few_runs n k most got)) in
    let refused : rule_packing (Shown own) own 0 own.platform.cores ≡ Refused (status.TooMany core runs entries) =
    subst (λ c. rule_packing (Shown own) c 0 c.platform.cores ≡ Refused (status.TooMany core runs entries)) is (over (Shown own)) in
    let clash : Shown own ≡ Refused (status.TooMany core runs entries) = sym passed ∙ refused in cc

-- so it can be played
pub is_workload : (n : ℕ) (input : Input) → checked_data input.packed.checked ≡ workload_config n
    → map (λ image. image.items) input.images.items ≡ workload_images n → input.events.items ≡ workload_events n
    → ArePlans (checked_data input.packed.checked) input.packed.plans.items → IsWorkload n input
is_workload n input config images events plans =
    let keeps : IsLawful (workload_config n) (workload_events n) = lawful n in
    record {
      made = ap (λ c. record {
        cfg = c;
        images = map (λ image. image.items) input.images.items;
        events = map flat_event input.events.items;
      }) config
          ∙ ap (λ i. record { cfg = workload_config n; images = i; events = map flat_event input.events.items }) images
          ∙ ap (λ (e : List Event). record { cfg = workload_config n; images = workload_images n; events = map flat_event e }) events;
      playable = record {
        plans = plans;
        rooms = subst (λ c. FitRooms c (map (λ image. image.items) input.images.items)) (sym config)
            (subst (FitRooms (workload_config n)) (sym images) (rooms n));
        placed = subst (λ c. All (IsPlaced c) input.events.items) (sym config)
            (subst (All (IsPlaced (workload_config n))) (sym events) keeps.placed);
        few = subst (λ (e : List Event). length e ≤ event_limit) (sym events) keeps.few;
      };
    }
