-- Values of system registers that aren't just kept.
use Rattle.std.specs.Prelude.{ℕ, ◌+◌, ◌-◌, ◌*◌, ◌%◌, ◌^◌, Bool, ◌==◌, if◌then◌else◌, unwrap_or}
use Rattle.bao_types.specs.Bits.{field}
use Rattle.bao_types.specs.declared.interface.TimerRegs.{TimerRegs}
use Rattle.a64_state.specs.Core.{CoreData}
use Rattle.a64_state.specs.Mode.{with_mode}
use Rattle.a64_state.specs.declared.mode.Mode.TheVariants.{El1t, El1h}
use Rattle.generic_timer.specs.Timer.{meets_condition}
use Rattle.vgic_iface.specs.Interface.{no_interrupt}
use Rattle.a64_sysreg.specs.declared.moment.Moment.{Moment}

-- the bits from `low` to `high` of a value, at their places
abbrev pub bits : ℕ → ℕ → ℕ → ℕ
bits value high low = field value high low * 2 ^ low

-- a bit of a value is set
abbrev pub is_set : ℕ → ℕ → Bool
is_set value place = field value place place == 1

-- the core with another PSTATE
abbrev pub with_pstate : CoreData → ℕ → CoreData
with_pstate core pstate = record core { pstate = pstate }

-- SPSel written: bit 0 selects EL1's own stack pointer
abbrev pub with_sp_sel : CoreData → ℕ → CoreData
with_sp_sel core value = with_pstate core (with_mode core.pstate (if is_set value 0 then El1h else El1t))

-- CNTV_TVAL_EL0: the lowest 32 bits of the compare value less the count
abbrev pub timer_value : TimerRegs → ℕ → ℕ
timer_value timer now = field ((timer.cval + (2 ^ 64 - now)) % 2 ^ 64) 31 0

-- the lowest 32 bits with copies of their highest bit above, as 64 bits
abbrev pub signed_word : ℕ → ℕ
signed_word value = if is_set value 31 then field value 31 0 + (2 ^ 64 - 2 ^ 32) else field value 31 0

-- the compare value after a write of CNTV_TVAL_EL0: the count and the signed value, in 64 bits
abbrev pub compare_value : ℕ → ℕ → ℕ
compare_value now value = (now + signed_word value) % 2 ^ 64

-- CNTV_CTL_EL0: ENABLE and IMASK are kept, and bit 2, ISTATUS, shows the condition
abbrev pub timer_control : TimerRegs → ℕ → ℕ
timer_control timer now = timer.ctl + (if meets_condition timer now then 2 ^ 2 else 0)

-- the number of the interrupt that the core may take, as the interface shows it
abbrev pub shown : Moment → ℕ
shown moment = unwrap_or moment.signal no_interrupt
