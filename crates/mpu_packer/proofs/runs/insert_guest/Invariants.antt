use Rattle.std.proofs.Common.{◌≡◌, ℕ, map, drop, find}
use Rattle.bao_types.specs.declared.access.Class.TheVariants.{Nothing}
use Rattle.bao_config.specs.Data.{vm_data}
use Rattle.region_list.specs.Ranges.{class_of_byte}
use Rattle.bao_wellformed.specs.Checked.{checked_data}
use Rattle.bao_wellformed.specs.Map.{has_core, owner}
use Rattle.mpu_packer.proofs.runs.insert_guest.Given as goal

abbrev pub invariant-loop-vm : goal.invariant-loop-vm
invariant-loop-vm l =
    record {
      nothing : (at : ℕ) → class_of_byte l.ranges at ≡ Nothing;
      rest : find (has_core l.core) (map vm_data (drop l.vm-index l.vm-items)) ≡ owner (checked_data l.checked) l.core;
    }
