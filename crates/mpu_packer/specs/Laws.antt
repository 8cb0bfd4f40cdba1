-- What entries that realise the classes of a core promise.
use Rattle.std.specs.Prelude.{◌≡◌, ℕ, ◌≤◌, List, length}
use Rattle.bao_types.specs.ByteRange.{address_space_end}
use Rattle.bao_types.specs.declared.access.Class.TheVariants.{Nothing}
use Rattle.bao_types.specs.declared.access.Access.{Access}
use Rattle.bao_types.specs.declared.access.Class.{Class}
use Rattle.bao_types.specs.declared.region.Region.{Region}
use Rattle.bao_config.specs.Data.{ConfigData}
use Rattle.bao_config.specs.Fits.{ConfigFits}
use Rattle.bao_wellformed.specs.Map.{by_map, class_of}
use Rattle.bao_wellformed.specs.WellFormed.{IsWellFormed}
use Rattle.pmsa_stage2.specs.Stage2.{stage2}
use Rattle.region_list.specs.declared.run.Run.{Run}
use Rattle.region_list.specs.Runs.{AreMaximalRuns}
use Rattle.mpu_packer.specs.Packing.{Realises, enabled_count}
use Rattle.mpu_packer.specs.Runs.{all_runs, packing_of}

-- each access to each byte has the verdict of the map
abbrev pub GivesTheMap : Type 0
GivesTheMap =
    (cfg : ConfigData) (core : ℕ) (entries : List Region) (access : Access) (at : ℕ) → Realises entries (class_of cfg core)
    → stage2 entries access at ≡ by_map cfg core access at

-- there are no fewer enabled entries than maximal runs, so a plan has the least number of entries
abbrev pub HasNoFewer : Type 0
HasNoFewer =
    (class_of : ℕ → Class) (runs : List Run) (entries : List Region) → AreMaximalRuns class_of runs → Realises entries class_of
    → length runs ≤ enabled_count entries

-- the packing of a core, as a function of a configuration that keeps the rules and the key table, realises the core's map
abbrev pub PackingRealises : Type 0
PackingRealises =
    (cfg : ConfigData) (core : ℕ) → IsWellFormed cfg → ConfigFits cfg → Realises (packing_of cfg core) (class_of cfg core)

-- where no byte outside the address space is in a run, there is one list of maximal runs
abbrev pub HasOneList : Type 0
HasOneList =
    (classes : ℕ → Class) (runs : List Run) → AreMaximalRuns classes runs → ((at : ℕ) → address_space_end ≤ at → classes at ≡ Nothing)
    → runs ≡ all_runs classes
