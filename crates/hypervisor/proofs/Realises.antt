-- Entries that realise a map are a second stage with its verdicts.
use Rattle.std.proofs.Common.{◌≡◌, ℕ, List}
use Rattle.bao_types.specs.declared.region.Region.{Region}
use Rattle.bao_config.specs.Data.{ConfigData}
use Rattle.bao_wellformed.specs.Map.{class_of, by_map}
use Rattle.board.specs.Stage.{by_entries}
use Rattle.mpu_packer.specs.Packing.{Realises}
use Rattle.mpu_packer.proofs.Verdicts.{gives_the_map}

pub verdicts_alike : (entries : List Region) (cfg : ConfigData) (core : ℕ) → Realises entries (class_of cfg core)
    → by_entries entries ≡ by_map cfg core
verdicts_alike entries cfg core realised = λ i access at. gives_the_map cfg core entries access at realised i
