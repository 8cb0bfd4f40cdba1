-- Products.
use Rattle.std.specs.Prelude.{ℕ, ◌*◌, ◌%◌, ◌^◌, ℤ, pos, ◌+ℤ◌, ◌-ℤ◌, ◌*ℤ◌}
use Rattle.bao_types.specs.Bits.{field}
use Rattle.a64_decode.specs.declared.operand.ProductKind.{ProductKind}
use Rattle.a64_decode.specs.declared.operand.ProductKind.TheVariants.{Madd, Msub, Smaddl, Smsubl, Smulh, Umaddl, Umsubl, Umulh}
use Rattle.a64_alu.specs.Numbers.{modulo, as_signed}

-- the product of the lowest 32 bits of two numbers, as unsigned numbers
abbrev pub unsigned_words : ℕ → ℕ → ℤ
unsigned_words n m = pos (n % 2 ^ 32 * (m % 2 ^ 32))

-- the same as signed numbers
abbrev pub signed_words : ℕ → ℕ → ℤ
signed_words n m = as_signed 32 (n % 2 ^ 32) *ℤ as_signed 32 (m % 2 ^ 32)

-- a product that is added to a number or subtracted from it, or the high half of a product of 128 bits
unfoldable pub product_of : ℕ → ProductKind → ℕ → ℕ → ℕ → ℕ
product_of width Madd a n m = modulo width (pos a +ℤ pos (n * m))
product_of width Msub a n m = modulo width (pos a -ℤ pos (n * m))
product_of width Smaddl a n m = modulo 64 (pos a +ℤ signed_words n m)
product_of width Smsubl a n m = modulo 64 (pos a -ℤ signed_words n m)
product_of width Smulh a n m = field (modulo 128 (as_signed 64 n *ℤ as_signed 64 m)) 127 64
product_of width Umaddl a n m = modulo 64 (pos a +ℤ unsigned_words n m)
product_of width Umsubl a n m = modulo 64 (pos a -ℤ unsigned_words n m)
product_of width Umulh a n m = field (n * m) 127 64
