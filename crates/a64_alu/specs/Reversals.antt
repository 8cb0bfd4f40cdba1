-- Reversals and counts of bits.
use Rattle.std.specs.Prelude.{ℕ, zero, suc, ◌+◌, ◌-◌, ◌*◌, ◌/◌, ◌%◌, ◌^◌, nat_le, if◌then◌else◌}
use Rattle.std.specs.Int.{w16, w32, w64, swap_bytes, reverse_bits_onto}
use Rattle.std.specs.Int.Count.{count_leading_zeros}
use Rattle.a64_decode.specs.declared.operand.OneSourceKind.{OneSourceKind}
use Rattle.a64_decode.specs.declared.operand.OneSourceKind.TheVariants.{Rbit, Rev16, Rev32, Rev64, Clz, Cls}
use Rattle.a64_alu.specs.Numbers.{inverted}

-- each element of `size` bits by itself, this many of them, the lowest first
abbrev pub each : (ℕ → ℕ) → ℕ → ℕ → ℕ → ℕ
each f size zero value = 0
each f size (suc count) value = f (value % 2 ^ size) + 2 ^ size * each f size count (value / 2 ^ size)

-- a number, inverted where its highest bit is set
abbrev pub without_sign : ℕ → ℕ → ℕ
without_sign width value = if nat_le (2 ^ (width - 1)) value then inverted width value else value

-- the bits or the bytes of elements in the opposite order, the zeros above the highest one, and the bits below the
-- highest bit that are like it, down to the first that isn't
unfoldable pub one_source : ℕ → OneSourceKind → ℕ → ℕ
one_source width Rbit value = reverse_bits_onto width value 0
one_source width Rev16 value = each (swap_bytes w16) 16 (width / 16) value
one_source width Rev32 value = each (swap_bytes w32) 32 (width / 32) value
one_source width Rev64 value = each (swap_bytes w64) 64 (width / 64) value
one_source width Clz value = count_leading_zeros width value
one_source width Cls value = count_leading_zeros width (without_sign width value) - 1
