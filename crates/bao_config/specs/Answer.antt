-- What a reader answers.
use Rattle.std.specs.Prelude.{◌≡◌, ℕ, List, [], ◌∷◌, Option, Some, None, Result, Ok, Err, if◌then◌else◌}
use Rattle.std.specs.Str.{is_utf8}
use Rattle.toml.specs.Data.{Members}
use Rattle.toml.specs.Parse.{parse_document}
use Rattle.bao_config.specs.declared.error.Spot.{Spot}
use Rattle.bao_config.specs.declared.error.ConfigError.{ConfigError}
use Rattle.bao_config.specs.declared.error.ConfigError.TheVariants.{BadToml}
use Rattle.bao_config.specs.Data.{ConfigData}
use Rattle.bao_config.specs.Faults.{IsFirst, table_faults, names_of}
use Rattle.bao_config.specs.KeyTable.{document}
use Rattle.bao_config.specs.Spelled.{config_of}

-- the record, which fits, where there are no faults; else the first fault, unless memory ran out
abbrev pub Reads : {X Y : Type 0} → (X → Y) → (Y → Type 0) → Result X ConfigError → List ConfigError → Y → Type 0
Reads data_of Fits (Ok x) faults spelled = (faults ≡ []) × (data_of x ≡ spelled) × Fits (data_of x)
Reads data_of Fits (Err e) faults spelled = IsFirst e faults

-- the document itself, at row 1
abbrev pub document_spot : Spot
document_spot = record { row = 1; i = 0; j = 0; k = 0 }

-- all the faults of a document, in the order of the key table
abbrev pub document_faults : Members → List ConfigError
document_faults ms = table_faults document (names_of document) document_spot ms

-- the record where there are no faults, and else the first of them
abbrev pub from_faults : List ConfigError → ConfigData → Result ConfigData ConfigError
from_faults [] config = Ok config
from_faults (fault ∷ faults) config = Err fault

abbrev pub from_document : Option Members → Result ConfigData ConfigError
from_document None = Err BadToml
from_document (Some ms) = from_faults (document_faults ms) (config_of ms)

-- What bytes spell: a configuration, or why they spell none. Where they aren't UTF-8, or aren't a TOML document by the
-- grammar of `toml`, that is `BadToml`.
abbrev pub spelled : List ℕ → Result ConfigData ConfigError
spelled bytes = if is_utf8 bytes then from_document (parse_document bytes) else Err BadToml
