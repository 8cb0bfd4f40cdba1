-- Hexadecimal digits, one by one; for this crate's callers.
use Rattle.std.proofs.Common.{◌≡◌, ℕ, zero, suc, ◌+◌, ◌-◌, ◌/◌, ◌%◌, ◌<◌, false, [], ◌∷◌, ◌++◌, length, refl, arith, length-append, sub-one}
use Rattle.std.specs.Fmt.{digit_glyph}
use Rattle.numerals.specs.Hex.{hex}

pub length_hex : (k number : ℕ) → length (hex k number) ≡ k
unfolding hex
length_hex zero number = refl
length_hex (suc k) number = omega (arith, length-append (hex k (number / 16)) (digit_glyph false (number % 16) ∷ []), length_hex k (number / 16))

-- one digit more
pub hex_more : (k number : ℕ) → 0 < k → hex k number ≡ hex (k - 1) (number / 16) ++ digit_glyph false (number % 16) ∷ []
unfolding hex
hex_more zero number some = absurd (omega arith)
hex_more (suc k) number some = rw sub-one refl
