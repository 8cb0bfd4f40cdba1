-- Hexadecimal digits.
use Rattle.std.proofs.Common.{◌≡◌, ℕ, zero, suc, ◌+◌, ◌-◌, ◌*◌, ◌/◌, ◌%◌, ◌^◌, ◌<◌, Bool, true, false, eqb, length, take, get_or, List, [], ◌∷◌, ◌++◌, refl, sym, ap, ◌∙◌, arith, append_assoc}
use Rattle.std.specs.Prelude.{◌&&◌, if◌then◌else◌, None, Some, fold}
use Rattle.std.specs.List.{list_all}
use Rattle.std.specs.Fmt.{digit_glyph}
use Rattle.std.proofs.lemmas.List.{take_more}
use Rattle.std.proofs.lemmas.List.Sums.{fold-append}
use Rattle.std.proofs.lemmas.List.Folds.{list_all-append, list_all_at}
use Rattle.numerals.specs.Hex.{hex}
use Rattle.numerals.proofs.Hex.{hex_more}
use Rattle.a64_asm.specs.Number.{is_hex_digit, hex_digit_value, hex_word_of}

-- the digits so far, and one more after them
pub hex_push : (old before new : List ℕ) (k number digit : ℕ) → 0 < k → before ≡ old ++ hex (k - 1) (number / 16)
    → digit ≡ digit_glyph false (number % 16) → new ≡ before ++ digit ∷ [] → new ≡ old ++ hex k number
hex_push old before new k number digit some so_far is pushed =
    pushed ∙ ap (λ d. before ++ d ∷ []) is ∙ ap (λ b. b ++ digit_glyph false (number % 16) ∷ []) so_far
    ∙ append_assoc old (hex (k - 1) (number / 16)) (digit_glyph false (number % 16) ∷ [])
    ∙ ap (λ h. old ++ h) (sym (hex_more k number some))

abbrev pub hex_value : List ℕ → ℕ
hex_value digits = fold (λ value digit. value * 16 + hex_digit_value digit) 0 digits

-- one digit more is read
pub digits_more : (text : List ℕ) (i : ℕ) → i < length text → list_all is_hex_digit (take i text) ≡ true
    → is_hex_digit (get_or text i 0) ≡ true → list_all is_hex_digit (take (i + 1) text) ≡ true
digits_more text i low before here =
    ap (list_all is_hex_digit) (take_more text i 0 low)
    ∙ list_all-append is_hex_digit (take i text) (get_or text i 0 ∷ []) ∙ rw (before, here) refl

pub value_more : (text : List ℕ) (i : ℕ) → i < length text
    → hex_value (take (i + 1) text) ≡ hex_value (take i text) * 16 + hex_digit_value (get_or text i 0)
value_more text i low =
    ap hex_value (take_more text i 0 low)
    ∙ fold-append (λ value digit. value * 16 + hex_digit_value digit) 0 (take i text) (get_or text i 0 ∷ [])

both_false : (b d : Bool) → d ≡ false → (b && d) ≡ false
both_false true d e = e
both_false false d e = refl

-- another byte than a digit
pub not_a_word : (text : List ℕ) (i : ℕ) → i < length text → is_hex_digit (get_or text i 0) ≡ false → None ≡ hex_word_of text
unfolding hex_word_of
not_a_word text i low here =
    sym (ap (λ b. if b then Some (hex_value text) else None)
    (both_false (eqb (length text) 8) (list_all is_hex_digit text) (list_all_at is_hex_digit text i 0 low here)))

-- up to seven digits make a number of 28 bits
pub few_digits : (i value : ℕ) → i < 8 → value < 16 ^ i → value < 2 ^ 28
few_digits zero value few low = omega arith
few_digits (suc zero) value few low = omega arith
few_digits (suc (suc zero)) value few low = omega arith
few_digits (suc (suc (suc zero))) value few low = omega arith
few_digits (suc (suc (suc (suc zero)))) value few low = omega arith
few_digits (suc (suc (suc (suc (suc zero))))) value few low = omega arith
few_digits (suc (suc (suc (suc (suc (suc zero)))))) value few low = omega arith
few_digits (suc (suc (suc (suc (suc (suc (suc zero))))))) value few low = omega arith
few_digits (suc (suc (suc (suc (suc (suc (suc (suc i)))))))) value few low = absurd (omega arith)
