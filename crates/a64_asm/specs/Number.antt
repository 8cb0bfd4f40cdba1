-- Hexadecimal numbers and offsets, as they are written in a line. The decimal ones, and the hexadecimal digits of a number, are
-- those of `numerals`.
use Rattle.std.specs.Prelude.{ℕ, ◌+◌, ◌-◌, ◌*◌, ◌^◌, ◌==◌, ◌&&◌, ◌||◌, nat_le, nat_lt, ◌<◌, ◌≤◌, ◌⊎◌, Bool, if◌then◌else◌, List, ◌∷◌, Option, None, Some, fold, length}
use Rattle.std.specs.List.{list_all}
use Rattle.std.specs.Char.{is_ascii_digit}
use Rattle.std.specs.Fmt.{decimal}
use Rattle.numerals.specs.Numeral.{zero_digit}
use Rattle.text_lines.specs.Ascii.{minus_sign, letter_a, letter_f}

-- `0` to `9` and `a` to `f`
abbrev pub is_hex_digit : ℕ → Bool
is_hex_digit byte = is_ascii_digit byte || (nat_le letter_a byte && nat_le byte letter_f)

abbrev pub hex_digit_value : ℕ → ℕ
hex_digit_value byte = if is_ascii_digit byte then byte - zero_digit else byte - letter_a + 10

-- the word that eight such digits are
unfoldable pub hex_word_of : List ℕ → Option ℕ
hex_word_of text =
    if (length text == 8) && list_all is_hex_digit text then Some (fold (λ value digit. value * 16 + hex_digit_value digit) 0 text)
    else None

-- a branch offset counts words, in two's complement of 64 bits; in a line it counts bytes, with a sign where it is negative
unfoldable pub offset_text : ℕ → List ℕ
offset_text offset = if nat_lt offset (2 ^ 63) then decimal (4 * offset) else minus_sign ∷ decimal (4 * (2 ^ 64 - offset))

-- a number of words whose bytes fit 64 bits
abbrev pub IsOffset : ℕ → Type 0
IsOffset offset = (offset < 2 ^ 61) ⊎ ((2 ^ 64 - 2 ^ 61 ≤ offset) × (offset < 2 ^ 64))
