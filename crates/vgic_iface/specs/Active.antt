-- The active priorities of a core, a set: bit p / 8 of the number stands for the priority p (GICv3, ICC_AP1R0_EL1).
use Rattle.std.specs.Prelude.{ℕ, ◌==◌, ◌-◌, ◌*◌, ◌/◌, ◌^◌, if◌then◌else◌, bit_or}
use Rattle.std.specs.Int.{trailing_zeros, w32}

-- the running priority: the least active one, 0xFF where there is none
abbrev pub running : ℕ → ℕ
running active = if active == 0 then 0xff else 8 * trailing_zeros w32 active

-- with one more active priority
abbrev pub with_priority : ℕ → ℕ → ℕ
with_priority active priority = bit_or active (2 ^ (priority / 8))

-- without the running priority, if there is one
abbrev pub without_running : ℕ → ℕ
without_running active = if active == 0 then 0 else active - 2 ^ trailing_zeros w32 active
