-- What a well-formed configuration is, and the one break that is reported of another.
use Rattle.std.specs.Prelude.{◌≡◌, List, [], ◌++◌, Option}
use Rattle.bao_config.specs.Data.{ConfigData}
use Rattle.bao_wellformed.specs.declared.ill.Ill.{Ill}
use Rattle.bao_wellformed.specs.Break.{first}
use Rattle.bao_wellformed.specs.Rules.{rule_1, rule_2, rule_3, rule_4, rule_5, rule_6, rule_7, rule_8, rule_9, rule_10, rule_11, rule_12, rule_13, rule_14, rule_15, rule_16, rule_17, rule_18, rule_19}
use Rattle.bao_wellformed.specs.ByteRules.{rule_20, rule_21, rule_22}

-- on the platform, on shared memories, on the VMs and their memory, on what else a VM is given, and on bytes
abbrev pub platform_breaks : ConfigData → List Ill
platform_breaks cfg = rule_1 cfg ++ (rule_2 cfg ++ (rule_3 cfg ++ rule_4 cfg))

abbrev pub memory_breaks : ConfigData → List Ill
memory_breaks cfg = rule_5 cfg ++ (rule_6 cfg ++ (rule_7 cfg ++ rule_8 cfg))

abbrev pub vm_breaks : ConfigData → List Ill
vm_breaks cfg = rule_9 cfg ++ (rule_10 cfg ++ (rule_11 cfg ++ (rule_12 cfg ++ rule_13 cfg)))

abbrev pub device_breaks : ConfigData → List Ill
device_breaks cfg = rule_14 cfg ++ (rule_15 cfg ++ (rule_16 cfg ++ (rule_17 cfg ++ (rule_18 cfg ++ rule_19 cfg))))

abbrev pub byte_breaks : ConfigData → List Ill
byte_breaks cfg = rule_20 cfg ++ (rule_21 cfg ++ rule_22 cfg)

-- all breaks, rule by rule
unfoldable pub breaks : ConfigData → List Ill
breaks cfg = platform_breaks cfg ++ (memory_breaks cfg ++ (vm_breaks cfg ++ (device_breaks cfg ++ byte_breaks cfg)))

-- no rule is broken
abbrev pub IsWellFormed : ConfigData → Type 0
IsWellFormed cfg = breaks cfg ≡ []

-- the first break of the first rule that has one
abbrev pub first_ill : ConfigData → Option Ill
first_ill cfg = first (breaks cfg)
