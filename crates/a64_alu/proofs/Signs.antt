-- Signed numbers and their bits.
use Rattle.std.proofs.Common.{◌≡◌, ◌<◌, ◌≤◌, ℕ, zero, suc, ◌+◌, ◌-◌, ◌*◌, ◌/◌, ◌%◌, ◌^◌, ℤ, pos, negsuc, ◌+ℤ◌, ◌-ℤ◌, neg_ℤ, unsigned_abs, refl, sym, ap, ◌∙◌, arith, inl, inr}
use Rattle.std.specs.Prelude.{int_div}
use Rattle.std.proofs.lemmas.Nat.{pow_pos, pow-add, leading_length}
use Rattle.std.proofs.lemmas.Bool.Decides.{leb_tells}
use Rattle.std.proofs.lemmas.Int.{ints, int_rem_euclid_is}
use Rattle.std.proofs.Math.Nat.{mod-eq_of_lt, mod-lt, mod_self, sub-zero, div-le_self, mul_assoc}
use Rattle.std.proofs.Math.Pow.{pow_mono, shr_mod}
use Rattle.std.proofs.lemmas.Bool.{cases_lt}
use Rattle.std.specs.Int.{int_shr, cast_unsigned, cast_signed, w64, w128}
use Rattle.std.specs.Int.Count.{count_leading_zeros}
use Rattle.std.specs.Int.RustNames.{FitsSigned}
use Rattle.bao_types.specs.Bits.{field}
use Rattle.a64_alu.specs.Numbers.{modulo, as_signed, inverted}
use Rattle.a64_alu.proofs.Bits.{shorter}

-- two signs' weights are the end
pub two_halves : (width : ℕ) → 0 < width → 2 * 2 ^ (width - 1) ≡ 2 ^ width
two_halves width some =
    let split : 1 + (width - 1) ≡ width = omega arith in
    sym (ap (λ k. 2 ^ k) (sym split) ∙ pow-add 2 1 (width - 1))

-- a number with the sign bit is negative
pub as_signed_high : (width n : ℕ) → 0 < width → 2 ^ (width - 1) ≤ n → n < 2 ^ width
    → as_signed width n ≡ negsuc (inverted width n)
as_signed_high width n some high below =
    let halves : 2 * 2 ^ (width - 1) ≡ 2 ^ width = two_halves width some in
    elim (leb_tells (2 ^ (width - 1)) n) [
      | inl high_n ↦ rw (high_n.0, halves) (omega (arith, ints, below))
      | inr low_n ↦ absurd (omega (arith, low_n.1, high))
    ]

-- and one without it isn't
pub as_signed_low : (width n : ℕ) → n < 2 ^ (width - 1) → as_signed width n ≡ pos n
as_signed_low width n low =
    elim (leb_tells (2 ^ (width - 1)) n) [
      | inl high_n ↦ absurd (omega (arith, high_n.1, low))
      | inr low_n ↦ rw low_n.0 refl
    ]

-- the lowest bits of minus a number
pub modulo_minus : (width n : ℕ) → n < 2 ^ width → modulo width (neg_ℤ (pos n)) ≡ (2 ^ width - n) % 2 ^ width
modulo_minus width zero below = rw (sub-zero, mod_self (2 ^ width)) (mod-eq_of_lt (pow_pos width))
modulo_minus width (suc n) below =
    let positive : 0 < 2 ^ width = pow_pos width in
    let left : n % 2 ^ width ≡ n = mod-eq_of_lt (omega arith) in
    let right : (2 ^ width - suc n) % 2 ^ width ≡ 2 ^ width - suc n = mod-eq_of_lt (omega arith) in
    rw (left, right) (omega arith)

-- the lowest bits of a whole number, by a natural one that differs by a multiple of the end
pub modulo_is : (width k m : ℕ) (number : ℤ) → number +ℤ pos (k * 2 ^ width) ≡ pos m → modulo width number ≡ m % 2 ^ width
modulo_is width k m number same =
    ap unsigned_abs (int_rem_euclid_is number (pos (2 ^ width)) (2 ^ width) k m (pow_pos width) refl same)

-- the lowest bits of a difference, from its lowest 64 bits
pub modulo_difference : (width a p : ℕ) → width ≤ 64
    → modulo width (pos a -ℤ pos p) ≡ (a + (2 ^ 64 - p % 2 ^ 64)) % 2 ^ 64 % 2 ^ width
modulo_difference width a p room =
    let split : (64 - width) + width ≡ 64 = omega arith in
    let whole : 2 ^ (64 - width) * 2 ^ width ≡ 2 ^ 64 = sym (ap (λ k. 2 ^ k) (sym split) ∙ pow-add 2 (64 - width) width) in
    let turns : ℕ = (p / 2 ^ 64 + 1) * 2 ^ (64 - width) in
    let product : turns * 2 ^ width ≡ (p / 2 ^ 64 + 1) * 2 ^ 64 =
    mul_assoc (p / 2 ^ 64 + 1) (2 ^ (64 - width)) (2 ^ width) ∙ ap (λ n. (p / 2 ^ 64 + 1) * n) whole in
    let same : (pos a -ℤ pos p) +ℤ pos (turns * 2 ^ width) ≡ pos (a + (2 ^ 64 - p % 2 ^ 64)) = rw product (omega (arith, ints)) in
    modulo_is width turns (a + (2 ^ 64 - p % 2 ^ 64)) (pos a -ℤ pos p) same ∙ sym (shorter (a + (2 ^ 64 - p % 2 ^ 64)) width room)

-- a shift of a negative number to the right
pub shifted_high : (width n amount : ℕ) → 0 < width → 2 ^ (width - 1) ≤ n → n < 2 ^ width
    → modulo width (int_shr (as_signed width n) amount) ≡ inverted width (inverted width n / 2 ^ amount)
shifted_high width n amount some high below =
    let small : inverted width n / 2 ^ amount ≤ inverted width n = div-le_self (inverted width n) (2 ^ amount) in
    let positive : 0 < 2 ^ width = pow_pos width in
    let all : inverted width n / 2 ^ amount % 2 ^ width ≡ inverted width n / 2 ^ amount = mod-eq_of_lt (omega arith) in
    rw (as_signed_high width n some high below, all) refl

-- a signed number of 128 bits
pub modulo_cast : (number : ℤ) → FitsSigned w128 number → modulo 128 number ≡ cast_unsigned w128 number
modulo_cast (pos n) fits = mod-eq_of_lt (omega (arith, fits.sfits))
modulo_cast (negsuc n) fits =
    let small : n % 2 ^ 128 ≡ n = mod-eq_of_lt (omega (arith, fits.sfits)) in
    rw small (omega arith)

-- leading zeros of a number without its highest bit
pub some_leading : (width n : ℕ) → 0 < width → n < 2 ^ (width - 1) → 0 < count_leading_zeros width n
some_leading width n some below =
    let halves : 2 * 2 ^ (width - 1) ≡ 2 ^ width = two_halves width some in
    let (length, sum, _, power) = leading_length width n (omega arith) in
    elim (cases_lt length width) [
      | inl fewer ↦ omega arith
      | inr as_many ↦
          let room : 2 ^ width ≤ 2 ^ length = pow_mono as_many in
          absurd (omega (arith, room, power, halves, below))
    ]

-- the magnitude of a negative number, in two forms
magnitude : (width n : ℕ) → n < 2 ^ width → 2 ^ width - n ≡ suc (inverted width n)
magnitude width n below = omega arith

-- a quotient is no larger than what is divided
quotient_below : (width n m : ℕ) → n < 2 ^ width → n / m < 2 ^ width
quotient_below width n m below = omega (arith, below, div-le_self n m)

-- quotients of signed numbers, by their signs
pub quotient_low_low : (width n m : ℕ) → n < 2 ^ (width - 1) → n < 2 ^ width → m < 2 ^ (width - 1)
    → n / m ≡ modulo width (int_div (as_signed width n) (as_signed width m))
quotient_low_low width n m n_low n_below m_low =
    rw
    (as_signed_low width n n_low, as_signed_low width m m_low)
    (sym (mod-eq_of_lt (quotient_below width n m n_below)))

pub quotient_low_high : (width n m : ℕ) → 0 < width → n < 2 ^ (width - 1) → n < 2 ^ width → 2 ^ (width - 1) ≤ m → m < 2 ^ width
    → (2 ^ width - n / (2 ^ width - m)) % 2 ^ width ≡ modulo width (int_div (as_signed width n) (as_signed width m))
quotient_low_high width n m some n_low n_below m_high m_below =
    rw
    (as_signed_low width n n_low, as_signed_high width m some m_high m_below, magnitude width m m_below)
    (sym (modulo_minus width (n / suc (inverted width m)) (quotient_below width n (suc (inverted width m)) n_below)))

pub quotient_high_low : (width n m : ℕ) → 0 < width → 2 ^ (width - 1) ≤ n → n < 2 ^ width → m < 2 ^ (width - 1)
    → (2 ^ width - (2 ^ width - n) / m) % 2 ^ width ≡ modulo width (int_div (as_signed width n) (as_signed width m))
quotient_high_low width n m some n_high n_below m_low =
    let positive : 0 < 2 ^ (width - 1) = pow_pos (width - 1) in
    let below : suc (inverted width n) < 2 ^ width = omega arith in
    rw
    (as_signed_high width n some n_high n_below, as_signed_low width m m_low, magnitude width n n_below)
    (sym (modulo_minus width (suc (inverted width n) / m) (quotient_below width (suc (inverted width n)) m below)))

pub quotient_high_high : (width n m : ℕ) → 0 < width → 2 ^ (width - 1) ≤ n → n < 2 ^ width → 2 ^ (width - 1) ≤ m → m < 2 ^ width
    → (2 ^ width - n) / (2 ^ width - m) ≡ modulo width (int_div (as_signed width n) (as_signed width m))
quotient_high_high width n m some n_high n_below m_high m_below =
    let positive : 0 < 2 ^ (width - 1) = pow_pos (width - 1) in
    let below : suc (inverted width n) < 2 ^ width = omega arith in
    rw (
      as_signed_high width n some n_high n_below,
      as_signed_high width m some m_high m_below,
      magnitude width n n_below,
      magnitude width m m_below,
    )
    (
    sym
    (
    mod-eq_of_lt
    (quotient_below width (suc (inverted width n)) (suc (inverted width m)) below)
    )
    )

-- the signed number of 64 bits, as a cast gives it
pub as_signed_is : (n : ℕ) → n < 2 ^ 64 → as_signed 64 n ≡ cast_signed w64 n
as_signed_is n below = grind (arith, ints)

modulo_below : (number : ℤ) → modulo 128 number < 2 ^ 128
modulo_below (pos n) = mod-lt n (pow_pos 128)
modulo_below (negsuc n) = omega arith

-- the high half of a signed number of 128 bits
pub high_half : (number : ℤ) → FitsSigned w128 number
    → cast_unsigned w128 number / 2 ^ 64 ≡ field (modulo 128 number) 127 64
high_half number fits =
    let below : cast_unsigned w128 number < 2 ^ (64 + 64) = rw (← modulo_cast number fits) (modulo_below number) in
    rw (modulo_cast number fits) (sym (shr_mod 64 64 below))
