-- What a contract sees of `check`.
use Rattle.std.specs.Prelude.{◌≡◌, Some, ⊤}
use Rattle.bao_config.specs.Config.{config_data}
use Rattle.bao_config.specs.Data.{ConfigData}
use Rattle.bao_wellformed.specs.declared.checked.Checked.{Checked}
use Rattle.bao_wellformed.specs.declared.checked.CheckError.{CheckError}
use Rattle.bao_wellformed.specs.declared.checked.CheckError.TheVariants.{Ill, OutOfMemory}
use Rattle.bao_wellformed.specs.WellFormed.{first_ill}

-- the plain data of a checked configuration
abbrev pub checked_data : Checked → ConfigData
checked_data checked = config_data checked.config

-- the refusal tells the configuration's first break, unless memory ran out
abbrev pub TellsFirst : ConfigData → CheckError → Type 0
TellsFirst cfg (Ill ill) = first_ill cfg ≡ Some ill
TellsFirst cfg OutOfMemory = ⊤
