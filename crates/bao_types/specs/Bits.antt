-- Bit fields, as the Arm manual writes them.
use Rattle.std.specs.Prelude.{ℕ, ◌+◌, ◌-◌, ◌/◌, ◌%◌, ◌^◌}

-- value<high:low>, as a number
abbrev pub field : ℕ → ℕ → ℕ → ℕ
field value high low = value / 2 ^ low % 2 ^ (high + 1 - low)
