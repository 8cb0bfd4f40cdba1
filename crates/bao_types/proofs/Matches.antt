-- Lemmas on the enabled regions that contain a byte.
use Rattle.std.proofs.Common.{◌≡◌, ◌≢◌, ℕ, ◌<◌, suc, List, [], ◌∷◌, ◌++◌, true, length, get_or, take, drop, refl, sym, ◌∙◌, ap, take-append-drop, drop-cons}
use Rattle.std.proofs.lemmas.List.Elements.{filter-append}
use Rattle.bao_types.specs.declared.region.Region.{Region}
use Rattle.bao_types.specs.declared.region_match.RegionMatch.TheVariants.{Miss, Overlap}
use Rattle.bao_types.specs.Region.{is_match, matching_regions}
use Rattle.bao_types.specs.RegionMatch.{match_of, region_match}

-- one more region beside a match makes an overlap
match_of-overlap : (before after : List Region) (region : Region) → match_of before ≢ Miss → match_of (before ++ region ∷ after) ≡ Overlap
match_of-overlap [] after region hit = absurd (hit refl)
match_of-overlap (first ∷ []) after region hit = refl
match_of-overlap (first ∷ second ∷ rest) after region hit = refl

-- a region that matches, after a match among those before it
pub region_match-overlap :
    (regions : List Region) (i : ℕ) (default : Region) (at : ℕ) →
    i < length regions → is_match (get_or regions i default) at ≡ true → region_match (take i regions) at ≢ Miss →
    region_match regions at ≡ Overlap
region_match-overlap regions i default at within here before =
    let region = get_or regions i default in
    let after = drop (suc i) regions in
    let split : regions ≡ take i regions ++ region ∷ after =
    sym (ap (λ rest. take i regions ++ rest) (sym (drop-cons regions i default within)) ∙ take-append-drop i regions)
    in
    let kept : matching_regions (region ∷ after) at ≡ region ∷ matching_regions after at = rw here refl in
    ap match_of (ap (λ all. matching_regions all at) split ∙ filter-append (λ x. is_match x at) (take i regions) (region ∷ after) ∙ ap (λ rest. matching_regions (take i regions) at ++ rest) kept)
    ∙ match_of-overlap (matching_regions (take i regions) at) (matching_regions after at) region before
