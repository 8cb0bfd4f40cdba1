-- The hexadecimal digits of a number.
use Rattle.std.specs.Prelude.{ℕ, zero, suc, ◌/◌, ◌%◌, false, List, [], ◌∷◌, ◌++◌}
use Rattle.std.specs.Fmt.{digit_glyph}

-- this many hexadecimal digits, in lower case, the last one last
unfoldable pub hex : ℕ → ℕ → List ℕ
hex zero number = []
hex (suc k) number = hex k (number / 16) ++ digit_glyph false (number % 16) ∷ []
