-- Decimal numbers, and how they are written.
use Rattle.std.proofs.Common.{◌≡◌, ℕ, zero, suc, ◌^◌, ◌<◌, ◌≤◌, Bool, true, false, ◌&&◌, List, [], ◌∷◌, length, get_or, sym, refl, ap, subst, ◌∙◌, arith, rules}
use Rattle.std.specs.Prelude.{Some, None, nat_lt, if◌then◌else◌}
use Rattle.std.specs.List.{list_all}
use Rattle.std.specs.Char.{is_ascii_digit}
use Rattle.std.specs.Fmt.{decimal}
use Rattle.std.specs.Str.{bytes_eq}
use Rattle.std.specs.Str.Parse.{digits_value}
use Rattle.std.proofs.lemmas.Bool.{and_parts, and_from, ltb-true, lt-ltb, eqb-true, eqb-false, both_ways}
use Rattle.std.proofs.lemmas.Slice.Eq.{bytes_eq-Decides}
use Rattle.std.proofs.lemmas.Str.Parse.{IsNumeralModel, numerals_by_value}
use Rattle.std.proofs.lemmas.Fmt.{decimal_digit, decimal_nonempty, first_decimal, digits_decimal, decimal-digits_value}
use Rattle.schedule.specs.Number.{number_of, is_numeral, is_padded}

pub own : IsNumeralModel (λ ds. list_all is_ascii_digit ds ≡ true) (digits_value 10)
own = numerals_by_value _ (search rules)

-- no number but 0 is written with a zero first
pub no_zero_first : (n : ℕ) → n < 2 ^ 64 → get_or (decimal n) 0 0 ≡ 48 → length (decimal n) ≡ 1
no_zero_first zero low first = ap length (decimal_digit 0 (omega arith))
no_zero_first (suc n) low first = absurd (omega (arith, first_decimal (suc n) (omega arith) low))

padded_parts : (text : List ℕ) → is_padded text ≡ true → (get_or text 0 0 ≡ 48) × (2 ≤ length text)
padded_parts [] h = cc
padded_parts (a ∷ []) h = cc
padded_parts (a ∷ b ∷ others) h = (eqb-true a 48 h, omega arith)

plain_parts : (text : List ℕ) → is_padded text ≡ false → get_or text 0 0 ≡ 48 → length text ≤ 1
plain_parts [] h first = omega arith
plain_parts (a ∷ []) h first = omega arith
plain_parts (a ∷ b ∷ others) h first = absurd (eqb-false a 48 h first)

-- by the two tests of a number: that it fits, and that it is written so
none_by : (v : ℕ) (text : List ℕ) (small same : Bool) → nat_lt v (2 ^ 64) ≡ small → bytes_eq text (decimal v) ≡ same
    → (v < 2 ^ 64 → text ≡ decimal v → ⊥) → None ≡ (if small && same then Some v else None)
none_by v text true true s e never = absurd (never (ltb-true v (2 ^ 64) s) ((bytes_eq-Decides text (decimal v)).0 e))
none_by v text true false s e never = refl
none_by v text false same s e never = refl

some_by : (v : ℕ) (text : List ℕ) (small same : Bool) → nat_lt v (2 ^ 64) ≡ small → bytes_eq text (decimal v) ≡ same
    → v < 2 ^ 64 → text ≡ decimal v → Some v ≡ (if small && same then Some v else None)
some_by v text true true s e low is = refl
some_by v text true false s e low is = absurd (both_ways _ e ((bytes_eq-Decides text (decimal v)).1 is))
some_by v text false same s e low is = absurd (both_ways _ s (lt-ltb v (2 ^ 64) low))

pub no_number : (text : List ℕ) → (digits_value 10 text < 2 ^ 64 → text ≡ decimal (digits_value 10 text) → ⊥)
    → None ≡ number_of text
unfolding number_of
no_number text never = none_by (digits_value 10 text) text _ _ refl refl never

pub is_number : (text : List ℕ) → digits_value 10 text < 2 ^ 64 → text ≡ decimal (digits_value 10 text)
    → Some (digits_value 10 text) ≡ number_of text
unfolding number_of
is_number text low is = some_by (digits_value 10 text) text _ _ refl refl low is

-- what a number's text has: it is how the number is written
number_by : (v n : ℕ) (text : List ℕ) (small same : Bool) → nat_lt v (2 ^ 64) ≡ small → bytes_eq text (decimal v) ≡ same
    → (if small && same then Some v else None) ≡ Some n → (n < 2 ^ 64) × (text ≡ decimal n)
number_by v n text true true s e h =
    let same : v ≡ n = cc in
    subst (λ m. (m < 2 ^ 64) × (text ≡ decimal m)) same (ltb-true v (2 ^ 64) s, (bytes_eq-Decides text (decimal v)).0 e)
number_by v n text true false s e h = cc
number_by v n text false same s e h = cc

pub number_is : (text : List ℕ) (n : ℕ) → number_of text ≡ Some n → (n < 2 ^ 64) × (text ≡ decimal n)
unfolding number_of
number_is text n h = number_by (digits_value 10 text) n text _ _ refl refl h

-- a zero before other bytes
pub padded : (text : List ℕ) → is_padded text ≡ true → None ≡ number_of text
padded text h =
    no_number text (λ low is.
    let parts : (get_or text 0 0 ≡ 48) × (2 ≤ length text) = padded_parts text h in
    let one : length (decimal (digits_value 10 text)) ≡ 1 =
    no_zero_first (digits_value 10 text) low (ap (λ t. get_or t 0 0) (sym is) ∙ parts.0) in
    omega (arith, parts.1, one, ap length is))

module _ (text : List ℕ) (h : is_padded text ≡ false) where
  written : is_numeral text ≡ true → (digits_value 10 text < 2 ^ 64) × (text ≡ decimal (digits_value 10 text))
  written e =
      let outer = and_parts _ _ e in
      let inner = and_parts _ _ outer.1 in
      let low : digits_value 10 text < 2 ^ 64 = ltb-true (digits_value 10 text) (2 ^ 64) inner.1 in
      let some : 0 < length text = ltb-true 0 (length text) outer.0 in (
        low,
        sym (decimal-digits_value own text inner.0 some (λ first. omega (arith, some, plain_parts text h first)) low),
      )

  numeral : digits_value 10 text < 2 ^ 64 → text ≡ decimal (digits_value 10 text) → is_numeral text ≡ true
  numeral low is =
      let digits : list_all is_ascii_digit text ≡ true =
      subst (λ t. list_all is_ascii_digit t ≡ true) (sym is) (digits_decimal own (digits_value 10 text) low) in
      let some : 0 < length text = omega (arith, ap length is, decimal_nonempty (digits_value 10 text) low) in
      and_from _ _ (lt-ltb 0 (length text) some) (and_from _ _ digits (lt-ltb (digits_value 10 text) (2 ^ 64) low))

  by_numeral : (b : Bool) → is_numeral text ≡ b → (if b then Some (digits_value 10 text) else None) ≡ number_of text
  by_numeral true e = let facts = written e in is_number text facts.0 facts.1
  by_numeral false e = no_number text (λ low is. both_ways _ e (numeral low is))

  -- digits that don't begin so
  pub plain : (if is_numeral text then Some (digits_value 10 text) else None) ≡ number_of text
  plain = by_numeral (is_numeral text) refl
