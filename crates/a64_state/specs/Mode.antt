-- The modes of EL0 and EL1, by the mode field of PSTATE (ARM DDI 0487, "SPSR_EL1", M).
use Rattle.std.specs.Prelude.{ℕ, ◌==◌, if◌then◌else◌, Option, Some, None}
use Rattle.a64_state.specs.Bits.{with_bits}
use Rattle.a64_state.specs.Pstate.{mode}
use Rattle.a64_state.specs.declared.mode.Mode.{Mode}
use Rattle.a64_state.specs.declared.mode.Mode.TheVariants.{El0t, El1t, El1h}

-- the value of the mode field
abbrev pub number_of : Mode → ℕ
number_of El0t = 0
number_of El1t = 4
number_of El1h = 5

-- the mode that the field says; no other value is a mode of these levels
abbrev pub mode_of : ℕ → Option Mode
mode_of pstate =
    if mode pstate == 0 then Some El0t
    else if mode pstate == 4 then Some El1t
    else if mode pstate == 5 then Some El1h
    else None

-- PSTATE with another mode, in bits 4 to 0
abbrev pub with_mode : ℕ → Mode → ℕ
with_mode pstate to = with_bits pstate 0 5 (number_of to)
