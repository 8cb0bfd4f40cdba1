-- What a contract sees of a `RegionFile`.
use Rattle.std.specs.Prelude.{ℕ, List}
use Rattle.bao_types.specs.declared.region.Region.{Region}

-- the selected region's number, and the 16 regions
pub record RegionFileData : Type 0 where
  pub select : ℕ
  pub regions : List Region
