-- The return from an exception that EL1 has taken (ARM DDI 0487, "Exception return" and "Illegal return events").
use Rattle.std.specs.Prelude.{◌≡◌, ℕ, ◌^◌, ◌<◌, true, Option, Some, None}
use Rattle.a64_state.specs.Core.{CoreData}
use Rattle.a64_state.specs.Pstate.{mode, IsPstate}
use Rattle.a64_state.specs.Parts.{Parts, parts_of}
use Rattle.a64_state.specs.Mode.{number_of, mode_of}
use Rattle.a64_state.specs.declared.mode.Mode.{Mode}
use Rattle.exceptions.specs.declared.entry.Cause.{Cause}
use Rattle.exceptions.specs.Assembled.{pstate_of}
use Rattle.exceptions.specs.Entry.{return_address, entered}

-- The parts of PSTATE after a return by an SPSR. To a mode of EL0 or EL1 they are those of the SPSR. A return to any
-- other mode is illegal: it takes the flags and the masks, sets IL, and stays at the level and the stack pointer it is at.
abbrev pub parts_after : ℕ → ℕ → Option Mode → Parts
parts_after spsr from (Some to) = record (parts_of spsr) { mode = number_of to }
parts_after spsr from None = record (parts_of spsr) { illegal_state = true; mode = from }

-- the core after a return; what isn't named stays
abbrev pub returned : CoreData → CoreData
returned core =
    record core {
      pc = core.sys.elr;
      pstate = pstate_of (parts_after core.sys.spsr (mode core.pstate) (mode_of core.sys.spsr));
    }

-- A return undoes an entry: PSTATE is what it was, PC is where the exception returns to, and nothing else changes. The
-- number of PSTATE has 32 bits.
abbrev pub UndoesEntry : Type 0
UndoesEntry =
    (core : CoreData) (cause : Cause) → core.pstate < 2 ^ 32 → IsPstate core.pstate →
    returned (entered core cause) ≡ record (entered core cause) { pc = return_address core cause; pstate = core.pstate }
