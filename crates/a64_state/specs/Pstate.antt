-- The bits of PSTATE as one number, in the layout of SPSR_EL1.
use Rattle.std.specs.Prelude.{◌≡◌, ℕ, ◌+◌, ◌*◌, ◌⊎◌, Bool, ◌==◌, if◌then◌else◌}
use Rattle.bao_types.specs.Bits.{field}
use Rattle.a64_state.specs.Bits.{with_bits}

-- N
abbrev pub negative_flag : ℕ → Bool
negative_flag pstate = field pstate 31 31 == 1

-- Z
abbrev pub zero_flag : ℕ → Bool
zero_flag pstate = field pstate 30 30 == 1

-- C
abbrev pub carry_flag : ℕ → Bool
carry_flag pstate = field pstate 29 29 == 1

-- V
abbrev pub overflow_flag : ℕ → Bool
overflow_flag pstate = field pstate 28 28 == 1

-- IL
abbrev pub illegal_state : ℕ → Bool
illegal_state pstate = field pstate 20 20 == 1

-- I, which masks IRQ
abbrev pub masks_irq : ℕ → Bool
masks_irq pstate = field pstate 7 7 == 1

-- SP, the lowest bit of the mode: which stack pointer EL1 has selected, 0 for SP_EL0 and 1 for its own
abbrev pub sp_sel : ℕ → ℕ
sp_sel pstate = field pstate 0 0

-- M, the mode
abbrev pub mode : ℕ → ℕ
mode pstate = field pstate 4 0

-- N, Z, C and V as a number of four bits, N the highest
abbrev pub flags : ℕ → ℕ
flags pstate = field pstate 31 28

-- D, A, I and F as a number of four bits, D the highest
abbrev pub daif : ℕ → ℕ
daif pstate = field pstate 9 6

-- the flags as a number of four bits, N the highest
abbrev pub nzcv : Bool → Bool → Bool → Bool → ℕ
nzcv n z c v = 8 * (if n then 1 else 0) + 4 * (if z then 1 else 0) + 2 * (if c then 1 else 0) + (if v then 1 else 0)

-- PSTATE with other flags N, Z, C and V
abbrev pub with_flags : ℕ → ℕ → ℕ
with_flags pstate to = with_bits pstate 28 4 to

-- PSTATE with another IL
abbrev pub with_illegal_state : ℕ → Bool → ℕ
with_illegal_state pstate to = with_bits pstate 20 1 (if to then 1 else 0)

-- PSTATE with other masks D, A, I and F
abbrev pub with_daif : ℕ → ℕ → ℕ
with_daif pstate to = with_bits pstate 6 4 to

-- EL0, EL1 with SP_EL0, or EL1 with its own stack pointer
abbrev pub IsMode : ℕ → Type 0
IsMode number = (number ≡ 0) ⊎ (number ≡ 4) ⊎ (number ≡ 5)

-- no bits but N, Z, C, V, IL, D, A, I, F and the mode, which is one of the three
pub record IsPstate (pstate : ℕ) : Type 0 where
  pub high : field pstate 27 21 ≡ 0
  pub middle : field pstate 19 10 ≡ 0
  pub low : field pstate 5 5 ≡ 0
  pub legal : IsMode (mode pstate)
