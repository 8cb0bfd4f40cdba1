-- Branches (ARM DDI 0487, "Branches, Exception Generating and System instructions"): where PC goes, and the link. Which row
-- branches where is in Execute.
use Rattle.std.specs.Prelude.{ℕ, Bool, true, false, if◌then◌else◌}
use Rattle.a64_state.specs.Core.{CoreData}
use Rattle.a64_state.specs.Registers.{with_x}
use Rattle.a64_decode.specs.declared.operand.BranchKind.{BranchKind}
use Rattle.a64_decode.specs.declared.operand.BranchKind.TheVariants.{Br, Blr, Ret}
use Rattle.a64_address.specs.Address.{plus, shifted_left}

-- the address of the next instruction
abbrev pub next_pc : CoreData → ℕ
next_pc core = plus core.pc 4

-- the core at the next instruction
abbrev pub advanced : CoreData → CoreData
advanced core = record core { pc = next_pc core }

-- an offset counts words from the instruction itself
abbrev pub target_of : CoreData → ℕ → ℕ
target_of core offset = plus core.pc (shifted_left offset 2)

-- X30 is the address of the next instruction, where there is a link
abbrev pub with_link : Bool → CoreData → CoreData
with_link link core = if link then with_x core 30 (next_pc core) else core

-- at the target where the branch is taken, else at the next instruction
abbrev pub at_target_if : Bool → ℕ → CoreData → CoreData
at_target_if taken offset core = record core { pc = if taken then target_of core offset else next_pc core }

abbrev pub is_linked : BranchKind → Bool
is_linked Br = false
is_linked Blr = true
is_linked Ret = false
