-- Decimal numbers of 64 bits.
use Rattle.std.specs.Prelude.{◌≡◌, ℕ, ◌^◌, ◌<◌, ◌==◌, ◌&&◌, nat_lt, Bool, false, if◌then◌else◌, List, [], ◌∷◌, ◌++◌, length, Option, None, Some}
use Rattle.std.specs.List.{list_all}
use Rattle.std.specs.Char.{is_ascii_digit}
use Rattle.std.specs.Fmt.{decimal}
use Rattle.std.specs.Str.{bytes_eq}
use Rattle.std.specs.Str.Parse.{digits_value}
use Rattle.numerals.specs.Numeral.{zero_digit}

-- the number, where it fits 64 bits and the text is how it is written
abbrev pub if_written : ℕ → List ℕ → Option ℕ
if_written n text = if nat_lt n (2 ^ 64) && bytes_eq text (decimal n) then Some n else None

-- the number that a text is: without leading zeros, since none is written with them
unfoldable pub number_of : List ℕ → Option ℕ
number_of text = if_written (digits_value 10 text) text

-- For private clauses: one digit or more, of a number below 2^64, with leading zeros or without.
abbrev pub is_numeral : List ℕ → Bool
is_numeral text = nat_lt 0 (length text) && (list_all is_ascii_digit text && nat_lt (digits_value 10 text) (2 ^ 64))

-- a zero stands before another byte
abbrev pub is_padded : List ℕ → Bool
is_padded [] = false
is_padded (digit ∷ []) = false
is_padded (first ∷ second ∷ others) = first == zero_digit

-- For private clauses: the text begins with this number, as it is written, and this stands after it.
pub record BeginsWithNumber (text : List ℕ) (n : ℕ) (behind : List ℕ) : Type 0 where
  pub fits : n < 2 ^ 64
  pub written : text ≡ decimal n ++ behind
