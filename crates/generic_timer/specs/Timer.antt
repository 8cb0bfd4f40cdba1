-- What a contract sees of the virtual timer: CNTV_CTL_EL0, CNTV_CVAL_EL0 and the level that the timer's line had last
-- (Arm DDI 0487, "The Generic Timer"). That the line, PPI 27, is raised by its rising edges alone is our own choice.
use Rattle.std.specs.Prelude.{◌==◌, ℕ, nat_le, Bool, not, ◌&&◌}
use Rattle.bao_types.specs.declared.interface.TimerRegs.{TimerRegs}
use Rattle.bao_types.specs.Bits.{field}

-- CNTV_CTL_EL0.ENABLE
abbrev pub is_enabled : TimerRegs → Bool
is_enabled timer = field timer.ctl 0 0 == 1

-- CNTV_CTL_EL0.IMASK
abbrev pub is_masked : TimerRegs → Bool
is_masked timer = field timer.ctl 1 1 == 1

-- CNTV_CTL_EL0.ISTATUS: the timer is on, and the count is at or past the compare value
abbrev pub meets_condition : TimerRegs → ℕ → Bool
meets_condition timer now = is_enabled timer && nat_le timer.cval now

-- the level of the timer's line: the condition where it isn't masked
abbrev pub line_level : TimerRegs → ℕ → Bool
line_level timer now = meets_condition timer now && not (is_masked timer)

-- the level is up and was down
abbrev pub rises : TimerRegs → ℕ → Bool
rises timer now = line_level timer now && not timer.level

-- the timer that keeps the level at this count; all else stays
abbrev pub with_level : TimerRegs → ℕ → TimerRegs
with_level timer now = record timer { level = line_level timer now }
