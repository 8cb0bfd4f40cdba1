-- A core whose regions are written stays within the masks.
use Rattle.std.proofs.Common.{◌≡◌, ℕ, zero, suc, List, [], ◌∷◌, get_or, refl, sym, subst}
use Rattle.std.specs.List.{All, AllByRecursion as ByRecursion}
use Rattle.std.proofs.lemmas.List.Elements.{All-set, recursion_from_All}
use Rattle.bao_types.specs.Region.{IsWithinMasks, kept_base, kept_limit, no_region}
use Rattle.bao_types.specs.RegionFile.{RegionFileData}
use Rattle.pmsa_regs.specs.RegionRegs.{selected, with_base, with_limit}
use Rattle.pmsa_regs.proofs.RegionRegsLemmas.{IsWithinMasks-base, IsWithinMasks-limit}
use Rattle.a64_state.specs.Core.{CoreData, IsCore}

-- the element at a place, or the default, has what all have
get_or-within : {X : Type 0} (P : X → Type 0) (xs : List X) (i : ℕ) (d : X) → P d → ByRecursion P xs → P (get_or xs i d)
get_or-within P [] i d default all = default
get_or-within P (x ∷ xs) zero d default all = all.0
get_or-within P (x ∷ xs) (suc i) d default all = get_or-within P xs i d default all.1

selected-within : (file : RegionFileData) → All IsWithinMasks file.regions → IsWithinMasks (selected file)
selected-within file all =
    get_or-within IsWithinMasks file.regions file.select no_region (refl, refl)
    (recursion_from_All IsWithinMasks file.regions all)

with_base-within :
    (file : RegionFileData) (value : ℕ) → All IsWithinMasks file.regions → All IsWithinMasks (with_base file value).regions
with_base-within file value all =
    All-set IsWithinMasks file.regions file.select (record (selected file) { base = kept_base value })
    (IsWithinMasks-base (selected file) value (selected-within file all)) all

with_limit-within :
    (file : RegionFileData) (value : ℕ) → All IsWithinMasks file.regions → All IsWithinMasks (with_limit file value).regions
with_limit-within file value all =
    All-set IsWithinMasks file.regions file.select (record (selected file) { limit = kept_limit value })
    (IsWithinMasks-limit (selected file) value (selected-within file all)) all

-- other regions in a core
with_regions :
    (core : CoreData) (file : RegionFileData) → IsCore core → All IsWithinMasks file.regions → IsCore (record core { regions = file })
with_regions core file is all =
    record { general = is.general; pstate = is.pstate; spsr = is.spsr; vbar = is.vbar; regions = all; timer = is.timer }

pub IsCore-with_base :
    (core : CoreData) (file : RegionFileData) (value : ℕ) → file ≡ with_base core.regions value → IsCore core →
    IsCore (record core { regions = file })
IsCore-with_base core file value written is =
    with_regions core file is
    (subst (λ f. All IsWithinMasks f.regions) (sym written) (with_base-within core.regions value is.regions))

pub IsCore-with_limit :
    (core : CoreData) (file : RegionFileData) (value : ℕ) → file ≡ with_limit core.regions value → IsCore core →
    IsCore (record core { regions = file })
IsCore-with_limit core file value written is =
    with_regions core file is
    (subst (λ f. All IsWithinMasks f.regions) (sym written) (with_limit-within core.regions value is.regions))
