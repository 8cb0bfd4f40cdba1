-- A board whose cores are packed for a configuration.
use Rattle.std.specs.Prelude.{ℕ, ◌-◌, ◌<◌, List, [], ◌∷◌, ◌++◌, length, map, replicate}
use Rattle.std.specs.List.{enumerate_from}
use Rattle.bao_types.specs.declared.region.Region.{Region}
use Rattle.bao_types.specs.Region.{no_region}
use Rattle.bao_config.specs.Data.{ConfigData}
use Rattle.bao_wellformed.specs.Map.{class_of}
use Rattle.board.specs.Machine.{entries_at}
use Rattle.mpu_packer.specs.Packing.{Realises}
use Rattle.mpu_packer.specs.Runs.{packing_of}

-- the packings of the platform's cores, in their order
abbrev pub packings : ConfigData → List (List Region)
packings cfg = map (λ place. packing_of cfg place.0) (enumerate_from 0 cfg.platform.cores)

-- the entries of a core that has this many: its packing, and zero entries after it
abbrev pub filled : ℕ → List Region → List Region
filled count packed = packed ++ replicate (count - length packed) no_region

-- of all cores; one that has no packing yet has zero entries alone
abbrev pub all_filled : List ℕ → List (List Region) → List (List Region)
all_filled [] packings = []
all_filled (count ∷ counts) [] = filled count [] ∷ all_filled counts []
all_filled (count ∷ counts) (packed ∷ packings) = filled count packed ∷ all_filled counts packings

-- each core of the platform has entries that realise the map for it
pub record ArePacked (cfg : ConfigData) (entries : List (List Region)) : Type 0 where
  pub realised : (core : ℕ) → core < length cfg.platform.cores → Realises (entries_at entries core) (class_of cfg core)
