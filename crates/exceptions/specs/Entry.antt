-- The entry to EL1 (ARM DDI 0487, "Exception entry" and "Exception vectors").
use Rattle.std.specs.Prelude.{ℕ, ◌+◌, ◌==◌, if◌then◌else◌, false, Some, None}
use Rattle.a64_state.specs.Core.{CoreData}
use Rattle.a64_state.specs.Pstate.{mode}
use Rattle.a64_state.specs.Parts.{parts_of}
use Rattle.a64_state.specs.Mode.{number_of}
use Rattle.a64_state.specs.declared.mode.Mode.TheVariants.{El1t, El1h}
use Rattle.exceptions.specs.declared.entry.Cause.{Cause}
use Rattle.exceptions.specs.declared.entry.Cause.TheVariants.{Sync, Irq}
use Rattle.exceptions.specs.Assembled.{pstate_of}

-- the vectors of an exception, as an offset from VBAR_EL1, by the mode that it comes from: EL1 with SP_EL0, EL1 with its
-- own stack pointer, or EL0
abbrev pub vectors_of : ℕ → ℕ
vectors_of from = if from == number_of El1t then 0x000 else if from == number_of El1h then 0x200 else 0x400

-- and among these the vector of its cause
abbrev pub vector_of : Cause → ℕ
vector_of (Sync esr far back) = 0x000
vector_of Irq = 0x080

-- ELR_EL1: where the exception returns to; an IRQ returns to the instruction that it came before
abbrev pub return_address : CoreData → Cause → ℕ
return_address core (Sync esr far back) = back
return_address core Irq = core.pc

-- ESR_EL1, which an IRQ doesn't write
abbrev pub syndrome_after : CoreData → Cause → ℕ
syndrome_after core (Sync esr far back) = esr
syndrome_after core Irq = core.sys.esr

-- FAR_EL1, which only an exception with a fault address writes
abbrev pub fault_address_after : CoreData → Cause → ℕ
fault_address_after core (Sync esr (Some far) back) = far
fault_address_after core (Sync esr None back) = core.sys.far
fault_address_after core Irq = core.sys.far

-- PSTATE after an entry: EL1 with its own stack pointer, D, A, I and F set, and IL clear; the flags stay
abbrev pub pstate_after : ℕ → ℕ
pstate_after pstate = pstate_of (record (parts_of pstate) { illegal_state = false; daif = 0b1111; mode = number_of El1h })

-- the core after an entry; what isn't named stays
abbrev pub entered : CoreData → Cause → CoreData
entered core cause =
    record core {
      pc = core.sys.vbar + vectors_of (mode core.pstate) + vector_of cause;
      pstate = pstate_after core.pstate;
      sys =
          record core.sys {
            spsr = core.pstate;
            elr = return_address core cause;
            esr = syndrome_after core cause;
            far = fault_address_after core cause;
          };
    }
