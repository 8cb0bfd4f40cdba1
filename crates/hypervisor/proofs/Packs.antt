-- A core whose entries are its packing with zeros after it realises its map.
use Rattle.std.proofs.Common.{◌≡◌, ℕ, zero, suc, ◌+◌, ◌-◌, ◌<◌, List, [], ◌∷◌, ◌++◌, length, map, replicate, refl, sym, subst, ap, ◌∙◌, arith, append-nil}
use Rattle.std.specs.List.{enumerate_from}
use Rattle.std.proofs.lemmas.List.Elements.{filter-append}
use Rattle.bao_types.specs.declared.region.Region.{Region}
use Rattle.bao_types.specs.Region.{is_match, matching_regions, no_region}
use Rattle.bao_config.specs.Data.{ConfigData}
use Rattle.bao_config.specs.Fits.{ConfigFits}
use Rattle.bao_wellformed.specs.Map.{class_of}
use Rattle.bao_wellformed.specs.WellFormed.{IsWellFormed}
use Rattle.board.specs.Machine.{entries_at}
use Rattle.mpu_packer.specs.Packing.{IsRealised, Realises}
use Rattle.mpu_packer.specs.Runs.{packing_of}
use Rattle.mpu_packer.proofs.Maximal.{packing_realises}
use Rattle.hypervisor.specs.Packed.{ArePacked, all_filled, filled, packings}

-- zero entries match no byte
none_match : (n at : ℕ) → matching_regions (replicate n no_region) at ≡ []
none_match zero at = refl
none_match (suc n) at = none_match n at

filled_match : (count : ℕ) (packed : List Region) (at : ℕ)
    → matching_regions (filled count packed) at ≡ matching_regions packed at
filled_match count packed at =
    filter-append (λ region. is_match region at) packed (replicate (count - length packed) no_region)
    ∙ ap (λ rest. matching_regions packed at ++ rest) (none_match (count - length packed) at)
    ∙ append-nil (matching_regions packed at)

module _ (cfg : ConfigData) where
  -- the entries of a core, of those of all cores from a number on
  entries_of_core : (counts : List ℕ) (from core : ℕ) → core < length counts
      → (count : ℕ)
      × (entries_at (all_filled counts (map (λ place. packing_of cfg place.0) (enumerate_from from counts))) core
      ≡ filled count (packing_of cfg (from + core)))
  entries_of_core [] from core low = absurd (omega arith)
  entries_of_core (count ∷ counts) from zero low =
      let here : from ≡ from + 0 = omega arith in (count, ap (λ c. filled count (packing_of cfg c)) here)
  entries_of_core (count ∷ counts) from (suc core) low =
      let later = entries_of_core counts (from + 1) core (omega arith) in
      let there : from + 1 + core ≡ from + suc core = omega arith in
      (later.0, later.1 ∙ ap (λ c. filled later.0 (packing_of cfg c)) there)

  pub are_packed : IsWellFormed cfg → ConfigFits cfg → ArePacked cfg (all_filled cfg.platform.cores (packings cfg))
  are_packed well_formed fits = record { realised = at_core }
    where
      at_core : (core : ℕ) → core < length cfg.platform.cores
          → Realises (entries_at (all_filled cfg.platform.cores (packings cfg)) core) (class_of cfg core)
      at_core core low at =
          let own = entries_of_core cfg.platform.cores 0 core low in
          let here : 0 + core ≡ core = omega arith in
          let entries = own.1 ∙ ap (λ c. filled own.0 (packing_of cfg c)) here in
          subst (λ entries. IsRealised (class_of cfg core at) (matching_regions entries at)) (sym entries)
          (subst (IsRealised (class_of cfg core at)) (sym (filled_match own.0 (packing_of cfg core) at))
          (packing_realises cfg core well_formed fits at))
