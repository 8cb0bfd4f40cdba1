-- PSTATE as its parts make it.
use Rattle.std.specs.Prelude.{ℕ, ◌+◌, ◌*◌, ◌^◌, if◌then◌else◌}
use Rattle.a64_state.specs.Parts.{Parts}

-- PSTATE, or an SPSR, of these parts; all other bits are 0
abbrev pub pstate_of : Parts → ℕ
pstate_of parts =
    parts.flags * 2 ^ 28 + (if parts.illegal_state then 1 else 0) * 2 ^ 20 + parts.daif * 2 ^ 6 + parts.mode
