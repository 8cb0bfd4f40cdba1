-- Lemmas on the second stage's verdict, for callers.
use Rattle.std.proofs.Common.{◌≡◌, ◌≢◌, ℕ, List, [], ◌∷◌, length, count_by, refl, sym, ◌∙◌, ap}
use Rattle.std.proofs.lemmas.List.Sums.{length-filter}
use Rattle.bao_types.specs.declared.access.Access.{Access}
use Rattle.bao_types.specs.declared.access.Verdict.TheVariants.{Translation}
use Rattle.bao_types.specs.declared.region.Region.{Region}
use Rattle.bao_types.specs.Region.{is_match, matching_regions}
use Rattle.bao_types.specs.RegionMatch.{match_of}
use Rattle.pmsa_stage2.specs.Stage2.{entry_verdict, match_verdict, stage2}

-- the entries that contain the byte decide, wherever they stand
pub stage2-same :
    (entries others : List Region) (access : Access) (at : ℕ) → matching_regions entries at ≡ matching_regions others at →
    stage2 entries access at ≡ stage2 others access at
unfolding stage2
stage2-same entries others access at same = ap (λ matching. match_verdict (match_of matching) access) same

-- a byte in no entry
pub stage2-none : (entries : List Region) (access : Access) (at : ℕ) → matching_regions entries at ≡ [] → stage2 entries access at ≡ Translation
unfolding stage2
stage2-none entries access at none = ap (λ matching. match_verdict (match_of matching) access) none

-- a byte in one entry alone
pub stage2-one :
    (entries : List Region) (entry : Region) (access : Access) (at : ℕ) → matching_regions entries at ≡ entry ∷ [] →
    stage2 entries access at ≡ entry_verdict entry access
unfolding stage2
stage2-one entries entry access at one = ap (λ matching. match_verdict (match_of matching) access) one

-- a byte that is not in exactly one entry
pub stage2-not_one :
    (entries : List Region) (access : Access) (at : ℕ) → count_by (λ entry. is_match entry at) entries ≢ 1 →
    stage2 entries access at ≡ Translation
unfolding stage2
stage2-not_one entries access at not_one =
    by_length (matching_regions entries at) (λ one. not_one (sym (length-filter (λ entry. is_match entry at) entries) ∙ one))
  where
    by_length : (matching : List Region) → length matching ≢ 1 → match_verdict (match_of matching) access ≡ Translation
    by_length [] other = refl
    by_length (only ∷ []) other = absurd (other refl)
    by_length (first ∷ second ∷ rest) other = refl
