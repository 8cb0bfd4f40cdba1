-- The decimal number that a text is.
use Rattle.std.specs.Prelude.{ℕ, ◌+◌, ◌-◌, ◌*◌, ◌==◌, ◌&&◌, not, min, Bool, true, false, if◌then◌else◌, List, [], ◌∷◌, Option, None, Some, fold}
use Rattle.std.specs.List.{list_all}
use Rattle.std.specs.Char.{is_ascii_digit}

-- the digit 0, from which the others go on
abbrev pub zero_digit : ℕ
zero_digit = 48

-- the number that decimal digits are
abbrev pub value_of : List ℕ → ℕ
value_of digits = fold (λ value digit. value * 10 + (digit - zero_digit)) 0 digits

-- one byte or more, of which the first is no zero, unless it stands alone
abbrev pub has_no_leading_zero : List ℕ → Bool
has_no_leading_zero [] = false
has_no_leading_zero (digit ∷ []) = true
has_no_leading_zero (first ∷ second ∷ digits) = not (first == zero_digit)

-- the number that a text is, which has decimal digits without leading zeros. Those above 2^64 - 1 all count as that one
unfoldable pub number_of : List ℕ → Option ℕ
number_of text =
    if has_no_leading_zero text && list_all is_ascii_digit text then Some (min (value_of text) 0xffffffffffffffff) else None
