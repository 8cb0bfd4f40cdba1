-- Where a physical core stands: in which VM, and with which number there.
use Rattle.std.specs.Prelude.{ℕ, ◌==◌, Bool, false, Option, None, Some, unwrap_or}
use Rattle.std.specs.List.{position_from}
use Rattle.bao_config.specs.Data.{ConfigData, VmData}
use Rattle.bao_wellformed.specs.Map.{has_core}

-- the place of the VM that has the core, where one has it
abbrev pub place_of : ConfigData → ℕ → Option ℕ
place_of cfg core = position_from (has_core core) 0 cfg.vms

-- the place is this one
abbrev pub is_place : ℕ → Option ℕ → Bool
is_place v None = false
is_place v (Some w) = w == v

-- the virtual number of a physical core in its VM
abbrev pub virtual_core : VmData → ℕ → Option ℕ
virtual_core vm core = position_from (λ own. own == core) 0 vm.cores

-- the number that a core's guest sees as its own: 0 for a core of no VM
abbrev pub affinity_of : Option VmData → ℕ → ℕ
affinity_of None core = 0
affinity_of (Some vm) core = unwrap_or (virtual_core vm core) 0
