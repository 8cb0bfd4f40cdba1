-- Sums with a carry: the value, the carry and the overflow, by cases on the signs.
use Rattle.std.proofs.Common.{◌≡◌, ◌≢◌, ◌<◌, ◌≤◌, ℕ, ◌+◌, ◌-◌, ◌*◌, ◌%◌, Bool, true, false, not, ◌&&◌, leb, ℤ, pos, ◌+ℤ◌, ◌-ℤ◌, refl, arith, ◌⊎◌, inl, inr}
use Rattle.std.specs.Ordering.{int_eq}
use Rattle.std.proofs.Math.Bool.{beq}
use Rattle.std.proofs.Math.Nat.{mod-eq_of_lt, mod-eq-sub-mod, mod-lt}
use Rattle.std.proofs.lemmas.Bool.Decides.{leb_tells, Decides-int_eq}
use Rattle.std.proofs.lemmas.Int.{ints}
use Rattle.bao_types.specs.Sum.{signed}

equal : (a b : ℤ) → a ≡ b → not (int_eq a b) ≡ false
equal a b same = rw ((Decides-int_eq a b).1 same) refl

unequal_by : (a b : ℤ) (t : Bool) → int_eq a b ≡ t → a ≢ b → not t ≡ true
unequal_by a b true same other = absurd (other ((Decides-int_eq a b).0 same))
unequal_by a b false same other = refl

unequal : (a b : ℤ) → a ≢ b → not (int_eq a b) ≡ true
unequal a b other = unequal_by a b (int_eq a b) refl other

pub overflow : (half x y c value : ℕ) → 0 < half → x < 2 * half → y < 2 * half → c ≤ 1 → value < 2 * half
    → (value ≡ x + y + c) ⊎ (value + 2 * half ≡ x + y + c)
    → not (int_eq (signed half value) (signed half x +ℤ signed half y +ℤ pos c))
    ≡ (beq (leb half x) (leb half y) && not (beq (leb half value) (leb half x)))
overflow half x y c value some x_below y_below c_below value_below is_sum =
    elim (leb_tells half x) [
      | inl high_x ↦ elim (leb_tells half y) [
        | inl high_y ↦ elim (leb_tells half value) [
          | inl high_v ↦ rw (high_x.0, high_y.0, high_v.0) (equal (pos value -ℤ pos (2 * half)) ((pos x -ℤ pos (2 * half)) +ℤ (pos y -ℤ pos (2 * half)) +ℤ pos c) (omega (arith, ints, high_x.1, high_y.1, high_v.1)))
          | inr low_v ↦ rw (high_x.0, high_y.0, low_v.0) (unequal (pos value) ((pos x -ℤ pos (2 * half)) +ℤ (pos y -ℤ pos (2 * half)) +ℤ pos c) (λ same. omega (arith, ints, high_x.1, high_y.1, low_v.1, same)))
        ]
        | inr low_y ↦ elim (leb_tells half value) [
          | inl high_v ↦ rw (high_x.0, low_y.0, high_v.0) (equal (pos value -ℤ pos (2 * half)) ((pos x -ℤ pos (2 * half)) +ℤ pos y +ℤ pos c) (omega (arith, ints, high_x.1, low_y.1, high_v.1)))
          | inr low_v ↦ rw (high_x.0, low_y.0, low_v.0) (equal (pos value) ((pos x -ℤ pos (2 * half)) +ℤ pos y +ℤ pos c) (omega (arith, ints, high_x.1, low_y.1, low_v.1)))
        ]
      ]
      | inr low_x ↦ elim (leb_tells half y) [
        | inl high_y ↦ elim (leb_tells half value) [
          | inl high_v ↦ rw (low_x.0, high_y.0, high_v.0) (equal (pos value -ℤ pos (2 * half)) (pos x +ℤ (pos y -ℤ pos (2 * half)) +ℤ pos c) (omega (arith, ints, low_x.1, high_y.1, high_v.1)))
          | inr low_v ↦ rw (low_x.0, high_y.0, low_v.0) (equal (pos value) (pos x +ℤ (pos y -ℤ pos (2 * half)) +ℤ pos c) (omega (arith, ints, low_x.1, high_y.1, low_v.1)))
        ]
        | inr low_y ↦ elim (leb_tells half value) [
          | inl high_v ↦ rw (low_x.0, low_y.0, high_v.0) (unequal (pos value -ℤ pos (2 * half)) (pos x +ℤ pos y +ℤ pos c) (λ same. omega (arith, ints, low_x.1, low_y.1, high_v.1, same)))
          | inr low_v ↦ rw (low_x.0, low_y.0, low_v.0) (equal (pos value) (pos x +ℤ pos y +ℤ pos c) (omega (arith, ints, low_x.1, low_y.1, low_v.1)))
        ]
      ]
    ]

-- a number below twice another, by its remainder
pub remainder_cases : (total end : ℕ) → 0 < end → total < 2 * end → (total % end ≡ total) ⊎ (total % end + end ≡ total)
remainder_cases total end some below =
    elim (leb_tells end total) [
      | inl high ↦
          let rest : (total - end) % end ≡ total - end = mod-eq_of_lt (omega (arith, high.1)) in
          inr (rw (mod-eq-sub-mod high.1, rest) (omega (arith, high.1)))
      | inr low ↦ inl (mod-eq_of_lt low.1)
    ]

-- the overflow of a value that is the remainder
pub overflow_of-remainder : (half x y c value : ℕ) → 0 < half → x < 2 * half → y < 2 * half → c ≤ 1
    → value ≡ (x + y + c) % (2 * half)
    → not (int_eq (signed half value) (signed half x +ℤ signed half y +ℤ pos c))
    ≡ (beq (leb half x) (leb half y) && not (beq (leb half value) (leb half x)))
overflow_of-remainder half x y c value some x_below y_below c_below is_value =
    let below : (x + y + c) % (2 * half) < 2 * half = mod-lt (x + y + c) (omega arith) in
    overflow half x y c value some x_below y_below c_below (rw is_value below)
    (rw is_value (remainder_cases (x + y + c) (2 * half) (omega arith) (omega arith)))
