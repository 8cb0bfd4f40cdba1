-- What a contract sees of `pack`.
use Rattle.std.specs.Prelude.{◌≡◌, ℕ, ◌<◌, ◌≤◌, List, length, map, Some, slice_get, ⊤}
use Rattle.bao_config.specs.Data.{ConfigData}
use Rattle.bao_wellformed.specs.Map.{class_of}
use Rattle.region_list.specs.declared.run.Run.{Run}
use Rattle.region_list.specs.Runs.{AreMaximalRuns}
use Rattle.mpu_packer.specs.declared.packing.PackError.{PackError}
use Rattle.mpu_packer.specs.declared.packing.PackError.TheVariants.{TooMany, OutOfMemory}
use Rattle.mpu_packer.specs.declared.entries.Plan.{Plan}
use Rattle.mpu_packer.specs.Packing.{entry_of}
use Rattle.mpu_packer.specs.Runs.{core_runs}

-- the plan has one entry and one start for each maximal run of the core, and the core has this many entries
pub record IsPacking (cfg : ConfigData) (core : ℕ) (plan : Plan) : Type 0 where
  pub runs : List Run
  pub maximal : AreMaximalRuns (class_of cfg core) runs
  pub of_core : plan.core ≡ core
  pub entries : plan.entries.items ≡ map entry_of runs
  pub starts : plan.starts.items ≡ map (λ run. run.range.base) runs
  pub most : ℕ
  pub of_platform : slice_get cfg.platform.cores core ≡ Some most
  pub fits : length runs ≤ most

-- the core has this number of maximal runs and this lower number of entries
pub record HasTooMany (cfg : ConfigData) (core count most : ℕ) : Type 0 where
  pub runs : List Run
  pub maximal : AreMaximalRuns (class_of cfg core) runs
  pub counted : length runs ≡ count
  pub of_platform : slice_get cfg.platform.cores core ≡ Some most
  pub too_many : most < count

abbrev pub TellsTooMany : ConfigData → ℕ → PackError → Type 0
TellsTooMany cfg core (TooMany runs entries) = HasTooMany cfg core runs entries
TellsTooMany cfg core OutOfMemory = ⊤

-- the number that is told is that of the core's runs
abbrev pub CountsRuns : ConfigData → ℕ → PackError → Type 0
CountsRuns cfg core (TooMany runs entries) = runs ≡ length (core_runs cfg core)
CountsRuns cfg core OutOfMemory = ⊤
