-- Hexadecimal numbers as text.
use Rattle.std.specs.Prelude.{ℕ, ◌==◌, if◌then◌else◌, List, [], ◌∷◌, ◌++◌, codes}
use Rattle.numerals.specs.Numeral.{zero_digit}
use Rattle.numerals.specs.Hex.{hex}

-- two digits a byte
unfoldable pub hex_bytes : List ℕ → List ℕ
hex_bytes [] = []
hex_bytes (byte ∷ bytes) = hex 2 byte ++ hex_bytes bytes

-- digits without the zeros in front; the last digit stays
unfoldable pub trimmed : List ℕ → List ℕ
trimmed [] = []
trimmed (digit ∷ []) = digit ∷ []
trimmed (digit ∷ next ∷ digits) = if digit == zero_digit then trimmed (next ∷ digits) else digit ∷ next ∷ digits

-- `0x` and the hexadecimal digits of a number of 64 bits, without zeros in front
unfoldable pub short_hex : ℕ → List ℕ
short_hex number = codes "0x" ++ trimmed (hex 16 number)
