use Rattle.std.proofs.Common.{◌≡◌, ℕ, take}
use Rattle.region_list.specs.Ranges.{class_of_byte}
use Rattle.bao_wellformed.specs.Map.{grant}
use Rattle.bao_wellformed.specs.ByteRules.{kind_in}
use Rattle.mpu_packer.proofs.runs.insert_map.Given as goal

abbrev pub invariant-loop-entry : goal.invariant-loop-entry
invariant-loop-entry l = (at : ℕ) → class_of_byte l.ranges at ≡ grant (kind_in (take l.entry-index l.entries) at)
