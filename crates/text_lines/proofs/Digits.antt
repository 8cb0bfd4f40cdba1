-- Lengths of numbers as text.
use Rattle.std.proofs.Common.{◌≡◌, ℕ, ◌+◌, ◌*◌, ◌≤◌, ◌<◌, false, List, [], ◌∷◌, ◌++◌, length, take, drop, get_or, refl, sym, ap, ◌∙◌, arith, length-append, length-take, append_assoc, append-nil}
use Rattle.std.proofs.lemmas.List.{take_more}
use Rattle.std.proofs.lemmas.Bool.Decides.{nat_tests}
use Rattle.std.specs.Prelude.{◌==◌, ◌≢◌, true}
use Rattle.numerals.specs.Hex.{hex}
use Rattle.numerals.proofs.Hex.{length_hex}
use Rattle.numerals.specs.Numeral.{zero_digit}
use Rattle.text_lines.specs.Digits.{hex_bytes, trimmed}

pub length_hex_bytes : (bytes : List ℕ) → length (hex_bytes bytes) ≡ 2 * length bytes
unfolding hex_bytes
length_hex_bytes [] = refl
length_hex_bytes (byte ∷ bytes) = omega (arith, length-append (hex 2 byte) (hex_bytes bytes), length_hex 2 byte, length_hex_bytes bytes)

-- one byte more
pub hex_bytes_push : (bytes : List ℕ) (byte : ℕ) → hex_bytes (bytes ++ byte ∷ []) ≡ hex_bytes bytes ++ hex 2 byte
unfolding hex_bytes
hex_bytes_push [] byte = append-nil (hex 2 byte)
hex_bytes_push (b ∷ bytes) byte = ap (λ t. hex 2 b ++ t) (hex_bytes_push bytes byte) ∙ sym (append_assoc (hex 2 b) (hex_bytes bytes) (hex 2 byte))

-- one byte more of a list
pub hex_bytes_more : (bytes : List ℕ) (i : ℕ) → i < length bytes
    → hex_bytes (take (i + 1) bytes) ≡ hex_bytes (take i bytes) ++ hex 2 (get_or bytes i 0)
hex_bytes_more bytes i low = rw (take_more bytes i 0 low) (hex_bytes_push (take i bytes) (get_or bytes i 0))

pub length_hex_bytes_take : (bytes : List ℕ) (i : ℕ) → i ≤ length bytes → length (hex_bytes (take i bytes)) ≡ 2 * i
length_hex_bytes_take bytes i low = omega (arith, length_hex_bytes (take i bytes), length-take i bytes)

-- a zero in front of other digits goes
pub trimmed_more : (digits : List ℕ) → 1 < length digits → get_or digits 0 0 ≡ zero_digit → trimmed (drop 1 digits) ≡ trimmed digits
unfolding trimmed
trimmed_more [] many first = absurd (omega arith)
trimmed_more (digit ∷ []) many first = absurd (omega arith)
trimmed_more (digit ∷ next ∷ digits) many first = let e : (digit == zero_digit) ≡ true = grind (arith, nat_tests) in rw e refl

-- where there is none, all stay
pub trimmed_done : (digits : List ℕ) → (1 < length digits → get_or digits 0 0 ≢ zero_digit) → trimmed digits ≡ digits
unfolding trimmed
trimmed_done [] other = refl
trimmed_done (digit ∷ []) other = refl
trimmed_done (digit ∷ next ∷ digits) other =
    let some = other (omega arith) in let e : (digit == zero_digit) ≡ false = grind (arith, nat_tests) in rw e refl
