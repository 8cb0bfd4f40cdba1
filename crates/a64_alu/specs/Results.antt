-- What an instruction reads of a core, and where its result goes.
use Rattle.std.specs.Prelude.{◌≡◌, ℕ, ◌%◌, ◌^◌, Bool, if◌then◌else◌}
use Rattle.a64_state.specs.Core.{CoreData}
use Rattle.a64_state.specs.Pstate.{with_flags}
use Rattle.a64_state.specs.Registers.{x_of, with_x}
use Rattle.a64_decode.specs.declared.operand.Reg.{Reg}

-- the lowest bits of a register; register 31 reads as zero
abbrev pub low_x : CoreData → ℕ → Reg → ℕ
low_x core width r = x_of core r.0 % 2 ^ width

-- after a write of the flags
abbrev pub with_nzcv : CoreData → ℕ → CoreData
with_nzcv core flags = record core { pstate = with_flags core.pstate flags }

-- after a write of a register, and of the flags where they are set
abbrev pub with_x_and_flags : CoreData → Reg → ℕ → Bool → ℕ → CoreData
with_x_and_flags core r value set flags = if set then with_x (with_nzcv core flags) r.0 value else with_x core r.0 value

-- nothing has changed but general registers, stack pointers and flags; PC stays
pub record ChangesOnlyResults (old new : CoreData) : Type 0 where
  pub others : new ≡ record old { x = new.x; sp0 = new.sp0; sp1 = new.sp1; pstate = new.pstate }
  pub rest_of_pstate : new.pstate % 2 ^ 28 ≡ old.pstate % 2 ^ 28
