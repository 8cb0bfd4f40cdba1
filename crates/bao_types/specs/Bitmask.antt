-- Bitmask immediates (ARM DDI 0487, "DecodeBitMasks"): an element of ones, rotated and repeated.
use Rattle.std.specs.Prelude.{ℕ, zero, suc, ◌+◌, ◌-◌, ◌*◌, ◌/◌, ◌%◌, ◌^◌, Bool, not, ◌&&◌, ◌||◌, ◌==◌, nat_le, if◌then◌else◌, Option, Some, None}

-- the place of the highest set bit at or below `place`; 0 too where there is none
abbrev pub highest_set_bit : ℕ → ℕ → ℕ
highest_set_bit zero value = 0
highest_set_bit (suc place) value = if nat_le (2 ^ suc place) value then suc place else highest_set_bit place value

-- the logarithm of the element's size: the highest set bit of N followed by the inverted imms
abbrev pub element_log : ℕ → ℕ → ℕ
element_log n imms = highest_set_bit 6 (64 * n + (63 - imms))

-- no size, a size that the 32-bit form doesn't have, or an element of ones alone
unfoldable pub is_reserved : ℕ → ℕ → Bool → Bool
is_reserved n imms wide =
    (element_log n imms == 0)
    || (n == 1 && not wide)
    || (imms % 2 ^ element_log n imms == 2 ^ element_log n imms - 1)

-- this many ones, from bit 0 on
abbrev pub ones : ℕ → ℕ
ones count = 2 ^ count - 1

-- an element of `size` bits, rotated right
abbrev pub rotated : ℕ → ℕ → ℕ → ℕ
rotated size element places = element / 2 ^ places + element % 2 ^ places * 2 ^ (size - places)

-- copies of an element of `size` bits, one above the other
unfoldable pub repeated : ℕ → ℕ → ℕ → ℕ
repeated zero size element = 0
repeated (suc count) size element = element + 2 ^ size * repeated count size element

-- an element of 2 ^ log bits: imms + 1 ones, rotated right by immr, both by their lowest bits
abbrev pub element_of : ℕ → ℕ → ℕ → ℕ
element_of log immr imms = rotated (2 ^ log) (ones (imms % 2 ^ log + 1)) (immr % 2 ^ log)

-- as many copies of an element of 2 ^ log bits as the form has room for
abbrev pub filled : ℕ → Bool → ℕ → ℕ
filled log wide element = repeated ((if wide then 64 else 32) / 2 ^ log) (2 ^ log) element

-- the mask that N, immr and imms spell, and None for the reserved encodings
unfoldable pub bitmask_of : ℕ → ℕ → ℕ → Bool → Option ℕ
bitmask_of n immr imms wide =
    if is_reserved n imms wide then None
    else Some (filled (element_log n imms) wide (element_of (element_log n imms) immr imms))
