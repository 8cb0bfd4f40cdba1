-- The entries of the maximal runs give each byte as its class says.
use Rattle.std.proofs.Common.{◌≡◌, ℕ, ◌+◌, ◌%◌, ◌<◌, List, map, All, sym, subst, ap, ◌∙◌, arith}
use Rattle.bao_types.specs.declared.access.Class.{Class}
use Rattle.bao_types.specs.Region.{matching_regions}
use Rattle.region_list.specs.declared.run.Run.{Run}
use Rattle.region_list.specs.Layers.{AreInSpace, IsInSpace}
use Rattle.region_list.specs.Runs.{AreMaximalRuns}
use Rattle.mpu_packer.specs.Packing.{IsRealised, Realises, entry_of}
use Rattle.mpu_packer.proofs.Fields.{IsHeld, In, Out, has_bits, held_all, holding, matching_runs, one_held, realised}
use Rattle.mpu_packer.proofs.Granules.{IsAligned, all_aligned}

pub realises_runs : (class_of : ℕ → Class) (runs : List Run) → ((at k : ℕ) → at % 64 ≡ 0 → k < 64 → class_of (at + k) ≡ class_of at)
    → AreMaximalRuns class_of runs → AreInSpace runs → Realises (map entry_of runs) class_of
realises_runs class_of runs granular maximal in_space at =
    by_holding (one_held class_of runs 0 at maximal (omega arith))
  where
    aligned : All IsAligned runs
    aligned = all_aligned class_of granular runs 0 maximal

    matching : matching_regions (map entry_of runs) at ≡ map entry_of (holding runs at)
    matching = matching_runs runs at aligned in_space

    by_holding : IsHeld class_of at (holding runs at) → IsRealised (class_of at) (matching_regions (map entry_of runs) at)
    by_holding (Out none nothing) =
        subst (λ class. IsRealised class (matching_regions (map entry_of runs) at)) (sym nothing) (matching ∙ ap (map entry_of) none)
    by_holding (In run one class something) =
        let good = held_all runs at run (λ run. IsAligned run × IsInSpace run.range) (λ k d low. (aligned k d low, in_space k d low)) one in
        subst (λ class. IsRealised class (matching_regions (map entry_of runs) at)) class
        (realised run.class (matching_regions (map entry_of runs) at) (entry_of run) something (matching ∙ ap (map entry_of) one) (has_bits run good.0 good.1))
