-- The registers that an instruction names, and a core after a reset.
use Rattle.std.specs.Prelude.{ℕ, Bool, false, ◌==◌, if◌then◌else◌, slice_index, slice_set, replicate}
use Rattle.bao_types.specs.Bits.{field}
use Rattle.bao_types.specs.Region.{no_region}
use Rattle.a64_state.specs.Core.{CoreData}
use Rattle.a64_state.specs.Mode.{number_of}
use Rattle.a64_state.specs.Pstate.{mode}
use Rattle.a64_state.specs.declared.mode.Mode.TheVariants.{El1h}

-- Xn; register 31 reads as zero
abbrev pub x_of : CoreData → ℕ → ℕ
x_of core n = if n == 31 then 0 else slice_index core.x n

-- after a write of Xn; a write of register 31 is ignored
abbrev pub with_x : CoreData → ℕ → ℕ → CoreData
with_x core n value = record core { x = if n == 31 then core.x else slice_set core.x n value }

-- the exception level: bits 3 and 2 of the mode
abbrev pub level : CoreData → ℕ
level core = field core.pstate 3 2

-- SP is SP_EL1, in the one mode that selects it
abbrev pub has_own_sp : CoreData → Bool
has_own_sp core = mode core.pstate == number_of El1h

-- SP: SP_EL1 where it is selected, else SP_EL0
abbrev pub sp_of : CoreData → ℕ
sp_of core = if has_own_sp core then core.sp1 else core.sp0

-- after a write of SP
abbrev pub with_sp : CoreData → ℕ → CoreData
with_sp core value =
    record core {
      sp0 = if has_own_sp core then core.sp0 else value;
      sp1 = if has_own_sp core then value else core.sp1;
    }

-- where an instruction says that 31 is SP, and not the zero register
abbrev pub is_sp : ℕ → Bool
is_sp n = n == 31

-- Xn, or SP for 31
abbrev pub x_or_sp : CoreData → ℕ → ℕ
x_or_sp core n = if is_sp n then sp_of core else x_of core n

-- after a write of Xn, or of SP for 31
abbrev pub with_x_or_sp : CoreData → ℕ → ℕ → CoreData
with_x_or_sp core n value = if is_sp n then with_sp core value else with_x core n value

-- after a reset: EL1 with its own stack pointer and all interrupts masked (0x3C5); all other registers are zero
abbrev pub reset_core : ℕ → CoreData
reset_core affinity =
    record {
      x = replicate 31 0;
      sp0 = 0;
      sp1 = 0;
      pc = 0;
      pstate = 0x3C5;
      sys =
          record {
            sctlr = 0;
            cpacr = 0;
            spsr = 0;
            elr = 0;
            esr = 0;
            far = 0;
            mair = 0;
            vbar = 0;
            contextidr = 0;
            tpidr = 0;
            cntkctl = 0;
            tpidr_el0 = 0;
            tpidrro_el0 = 0;
          };
      regions = record { select = 0; regions = replicate 16 no_region };
      timer = record { ctl = 0; cval = 0; level = false };
      iface = record { pmr = 0; group = false; active = 0 };
      affinity = affinity;
    }
