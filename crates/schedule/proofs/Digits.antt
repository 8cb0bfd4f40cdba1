-- Decimal digits, one by one.
use Rattle.std.proofs.Common.{◌≡◌, ℕ, zero, suc, ◌+◌, ◌*◌, ◌^◌, ◌<◌, ◌≤◌, Bool, true, false, cond, List, [], ◌∷◌, ◌++◌, length, get_or, take, drop, sym, refl, ap, ◌∙◌, arith}
use Rattle.std.specs.Prelude.{Some, None}
use Rattle.std.specs.List.{list_all}
use Rattle.std.specs.Char.{digit_value}
use Rattle.std.specs.Str.Parse.{digits_value_after, digits_value}
use Rattle.std.proofs.Math.Nat.{mul-le-mul_left}
use Rattle.std.proofs.lemmas.List.{take_more, take-append-drop}
use Rattle.std.proofs.lemmas.List.Folds.{list_all-append}
use Rattle.std.proofs.lemmas.Bool.{and_left, and_right, le-ltb, cond-false}
use Rattle.std.proofs.lemmas.Int.Digits.{digits_value_more}
use Rattle.schedule.specs.Number.{is_numeral}

-- one element more passes
pub list_all_more : {X : Type 0} (p : X → Bool) (xs : List X) (i : ℕ) (d : X) → i < length xs → list_all p (take i xs) ≡ true
    → p (get_or xs i d) ≡ true → list_all p (take (i + 1) xs) ≡ true
list_all_more p xs i d inside before here =
    ap (list_all p) (take_more xs i d inside) ∙ list_all-append p (take i xs) _ ∙ rw (before, here) refl

-- one element fails
pub list_all_fails : {X : Type 0} (p : X → Bool) (xs : List X) (i : ℕ) (d : X) → i < length xs → p (get_or xs i d) ≡ false
    → list_all p xs ≡ false
list_all_fails p [] i d inside fails = absurd (omega arith)
list_all_fails p (x ∷ xs) zero d inside fails = and_left _ _ fails
list_all_fails p (x ∷ xs) (suc i) d inside fails = and_right _ _ (list_all_fails p xs i d (omega arith) fails)

-- more digits make no smaller number
value_after-ge : (radix : ℕ) (ds : List ℕ) (n : ℕ) → 1 ≤ radix → n ≤ digits_value_after radix n ds
value_after-ge radix [] n some = omega arith
value_after-ge radix (d ∷ ds) n some =
    omega (arith, mul-le-mul_left n some, value_after-ge radix ds (n * radix + digit_value d) some)

value_after-append : (radix n : ℕ) (xs ys : List ℕ)
    → digits_value_after radix n (xs ++ ys) ≡ digits_value_after radix (digits_value_after radix n xs) ys
value_after-append radix n [] ys = refl
value_after-append radix n (x ∷ xs) ys = value_after-append radix (n * radix + digit_value x) xs ys

value-take-le : (radix i : ℕ) (ds : List ℕ) → 1 ≤ radix → digits_value radix (take i ds) ≤ digits_value radix ds
value-take-le radix i ds some =
    let whole = ap (digits_value radix) (sym (take-append-drop i ds)) ∙ value_after-append radix 0 (take i ds) (drop i ds) in
    omega (arith, value_after-ge radix (drop i ds) (digits_value radix (take i ds)) some)

pub no_numeral : (ds : List ℕ) → is_numeral ds ≡ false → None ≡ cond (is_numeral ds) (Some (digits_value 10 ds)) None
no_numeral ds e = sym (cond-false _ _ _ e)

-- where the first digits don't fit, the whole doesn't
pub too_large : (ds : List ℕ) (i : ℕ) → i < length ds
    → 2 ^ 64 ≤ digits_value 10 (take i ds) * 10 + digit_value (get_or ds i 0) → is_numeral ds ≡ false
too_large ds i inside large =
    and_right _ _
    (and_right _ _
    (le-ltb (digits_value 10 ds) (2 ^ 64)
    (omega (arith, digits_value_more 10 ds i inside, value-take-le 10 (i + 1) ds (omega arith)))))
