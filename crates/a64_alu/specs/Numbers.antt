-- Numbers of a width in bits, and what bits of them stand for.
use Rattle.std.specs.Prelude.{ℕ, ◌-◌, ◌^◌, ℤ, pos, unsigned_abs}
use Rattle.std.specs.Int.{int_rem_euclid}
use Rattle.bao_types.specs.Sum.{signed}

-- each bit inverted
abbrev pub inverted : ℕ → ℕ → ℕ
inverted width value = 2 ^ width - 1 - value

-- the lowest bits of a whole number, in two's complement: the number modulo 2 ^ width
abbrev pub modulo : ℕ → ℤ → ℕ
modulo width number = unsigned_abs (int_rem_euclid number (pos (2 ^ width)))

-- the signed number that the bits are, in two's complement
abbrev pub as_signed : ℕ → ℕ → ℤ
as_signed width value = signed (2 ^ (width - 1)) value
