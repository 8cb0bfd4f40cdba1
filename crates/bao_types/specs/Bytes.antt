-- Numbers as bytes in memory: the least byte first, as A64 stores them.
use Rattle.std.specs.Prelude.{◌≡◌, ◌⊎◌, ℕ, suc, zero, ◌+◌, ◌*◌, ◌/◌, ◌%◌, ◌^◌, List, [], ◌∷◌}

-- the widths of an access in bytes: a byte, a halfword, a word or a doubleword
abbrev pub IsWidth : ℕ → Type 0
IsWidth width = (width ≡ 1) ⊎ (width ≡ 2) ⊎ (width ≡ 4) ⊎ (width ≡ 8)

-- the address after this one; addresses wrap at 2^64
abbrev pub next_address : ℕ → ℕ
next_address at = (at + 1) % 2 ^ 64

-- the number that these bytes are
abbrev pub little_endian : List ℕ → ℕ
little_endian [] = 0
little_endian (byte ∷ bytes) = byte + 256 * little_endian bytes

-- this many bytes of memory from an address on
abbrev pub bytes_from : (ℕ → ℕ) → ℕ → ℕ → List ℕ
bytes_from bytes at zero = []
bytes_from bytes at (suc count) = bytes at ∷ bytes_from bytes (next_address at) count

-- the lowest bytes of a number, this many
abbrev pub low_bytes : ℕ → ℕ → List ℕ
low_bytes zero value = []
low_bytes (suc count) value = value % 256 ∷ low_bytes count (value / 256)
