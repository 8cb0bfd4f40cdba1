-- Decimal numbers, digit by digit.
use Rattle.std.proofs.Common.{◌≡◌, ℕ, ◌+◌, ◌-◌, ◌*◌, ◌<◌, min, Bool, true, false, List, [], ◌∷◌, length, take, get_or, refl, sym, ap, ◌∙◌, arith}
use Rattle.std.specs.Prelude.{◌&&◌, if◌then◌else◌, None, Some}
use Rattle.std.specs.List.{list_all}
use Rattle.std.specs.Char.{is_ascii_digit}
use Rattle.std.proofs.lemmas.List.{take_more}
use Rattle.std.proofs.lemmas.List.Sums.{fold-append}
use Rattle.std.proofs.lemmas.List.Folds.{list_all-append, list_all_at}
use Rattle.numerals.specs.Numeral.{value_of, number_of, has_no_leading_zero}

-- one digit more
pub digits_more : (text : List ℕ) (i : ℕ) → i < length text → list_all is_ascii_digit (take i text) ≡ true
    → is_ascii_digit (get_or text i 0) ≡ true → list_all is_ascii_digit (take (i + 1) text) ≡ true
digits_more text i low before here =
    ap (list_all is_ascii_digit) (take_more text i 0 low)
    ∙ list_all-append is_ascii_digit (take i text) (get_or text i 0 ∷ []) ∙ rw (before, here) refl

pub value_more : (text : List ℕ) (i : ℕ) → i < length text
    → value_of (take (i + 1) text) ≡ value_of (take i text) * 10 + (get_or text i 0 - 48)
value_more text i low =
    ap value_of (take_more text i 0 low)
    ∙ fold-append (λ value digit. value * 10 + (digit - 48)) 0 (take i text) (get_or text i 0 ∷ [])

-- the value so far, cut off at 2^64 - 1, after one digit more
pub value_cut : (text : List ℕ) (i value digit next : ℕ) → i < length text
    → value ≡ min (value_of (take i text)) 0xffffffffffffffff → digit ≡ get_or text i 0 - 48
    → next ≡ min (min (value * 10) 0xffffffffffffffff + digit) 0xffffffffffffffff
    → next ≡ min (value_of (take (i + 1) text)) 0xffffffffffffffff
value_cut text i value digit next low before here then_ =
    rw (value_more text i low) (omega (arith, before, here, then_))

both_false : (b d : Bool) → d ≡ false → (b && d) ≡ false
both_false true d e = e
both_false false d e = refl

-- another byte than a digit
pub not_a_number : (text : List ℕ) (i : ℕ) → i < length text → is_ascii_digit (get_or text i 0) ≡ false
    → None ≡ number_of text
unfolding number_of
not_a_number text i low here =
    sym (ap (λ b. if b then Some (min (value_of text) 0xffffffffffffffff) else None)
    (both_false (has_no_leading_zero text) (list_all is_ascii_digit text) (list_all_at is_ascii_digit text i 0 low here)))
