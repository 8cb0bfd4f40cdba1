use Rattle.std.proofs.Common.{◌≡◌, take}
use Rattle.bao_types.specs.RegionMatch.{region_match}
use Rattle.bao_types.proofs.region_match.RegionMatch.of.Given as goal

abbrev pub invariant-loop-region : goal.invariant-loop-region
invariant-loop-region l = l.found ≡ region_match (take l.region-index l.regions) l.at
