-- Which enabled regions contain a byte, as far as their number decides.
use Rattle.std.specs.Prelude.{ℕ, List, [], ◌∷◌}
use Rattle.bao_types.specs.declared.region.Region.{Region}
use Rattle.bao_types.specs.declared.region_match.RegionMatch.{RegionMatch}
use Rattle.bao_types.specs.declared.region_match.RegionMatch.TheVariants.{Miss, Hit, Overlap}
use Rattle.bao_types.specs.Region.{matching_regions}

-- none, one alone, or more
abbrev pub match_of : List Region → RegionMatch
match_of [] = Miss
match_of (region ∷ []) = Hit region
match_of (_ ∷ _ ∷ _) = Overlap

-- the byte's match in a list of regions
abbrev pub region_match : List Region → ℕ → RegionMatch
region_match regions at = match_of (matching_regions regions at)
