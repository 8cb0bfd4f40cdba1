-- Bits of a number that are replaced; `field` of bao_types reads them.
use Rattle.std.specs.Prelude.{ℕ, ◌+◌, ◌*◌, ◌/◌, ◌%◌, ◌^◌}

-- a number in which `part` has replaced the `count` bits from `place` on
abbrev pub with_bits : ℕ → ℕ → ℕ → ℕ → ℕ
with_bits value place count part = value / 2 ^ (place + count) * 2 ^ (place + count) + part * 2 ^ place + value % 2 ^ place
