-- Lemmas on the first stage's verdict, for callers.
use Rattle.std.proofs.Common.{arith, ◌≡◌, ℕ, ◌<◌, true, false, List, [], ◌∷◌, length, count_by, if◌then◌else◌, refl, sym, ap, subst}
use Rattle.std.proofs.lemmas.List.Sums.{length-filter}
use Rattle.bao_types.specs.declared.access.Access.{Access}
use Rattle.bao_types.specs.declared.access.Verdict.TheVariants.{Allow, Translation}
use Rattle.bao_types.specs.declared.region.Region.{Region}
use Rattle.bao_types.specs.Region.{is_match, matching_regions}
use Rattle.bao_types.specs.RegionMatch.{match_of}
use Rattle.pmsa_stage1.specs.Stage1.{background_verdict, is_on, match_verdict, region_verdict, stage1}

-- the regions that contain the byte decide, wherever they stand
pub stage1-same :
    (regions others : List Region) (sctlr level : ℕ) (access : Access) (at : ℕ) →
    matching_regions regions at ≡ matching_regions others at →
    stage1 regions sctlr level access at ≡ stage1 others sctlr level access at
unfolding stage1
stage1-same regions others sctlr level access at same =
    ap (λ matching. if is_on sctlr then match_verdict (match_of matching) sctlr level access else Allow) same

-- the stage is off
pub stage1-off :
    (regions : List Region) (sctlr level : ℕ) (access : Access) (at : ℕ) → is_on sctlr ≡ false → stage1 regions sctlr level access at ≡ Allow
unfolding stage1
stage1-off regions sctlr level access at off = rw off refl

-- a byte in no region
pub stage1-none :
    (regions : List Region) (sctlr level : ℕ) (access : Access) (at : ℕ) → is_on sctlr ≡ true → matching_regions regions at ≡ [] →
    stage1 regions sctlr level access at ≡ background_verdict sctlr level
unfolding stage1
stage1-none regions sctlr level access at on none = rw (on, none) refl

-- a byte in one region alone
pub stage1-one :
    (regions : List Region) (region : Region) (sctlr level : ℕ) (access : Access) (at : ℕ) →
    is_on sctlr ≡ true → matching_regions regions at ≡ region ∷ [] →
    stage1 regions sctlr level access at ≡ region_verdict region level access
unfolding stage1
stage1-one regions region sctlr level access at on one = rw (on, one) refl

-- a byte in more than one region
pub stage1-several :
    (regions : List Region) (sctlr level : ℕ) (access : Access) (at : ℕ) →
    is_on sctlr ≡ true → 1 < count_by (λ region. is_match region at) regions →
    stage1 regions sctlr level access at ≡ Translation
unfolding stage1
stage1-several regions sctlr level access at on several =
    rw on (by_length (matching_regions regions at) (subst (λ count. 1 < count) (sym (length-filter (λ region. is_match region at) regions)) several))
  where
    by_length : (matching : List Region) → 1 < length matching → match_verdict (match_of matching) sctlr level access ≡ Translation
    by_length [] short = absurd (omega arith)
    by_length (only ∷ []) short = absurd (omega arith)
    by_length (first ∷ second ∷ rest) long = refl
