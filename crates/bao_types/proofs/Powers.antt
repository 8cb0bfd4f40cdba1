-- Powers of two: weights of places, and numbers that are cut in two.
use Rattle.std.proofs.Common.{◌≡◌, ◌<◌, ◌≤◌, ℕ, ◌+◌, ◌-◌, ◌*◌, ◌/◌, ◌%◌, ◌^◌, ap, arith}
use Rattle.std.proofs.lemmas.Nat.{pow-add, pow_pos}
use Rattle.std.proofs.Math.Nat.{div-lt_iff_lt-mul, mul-le-mul_right, mod-lt, one-mul, mod-eq_of_lt}
use Rattle.std.proofs.Math.Pow.{pow_mono}

-- the upper part below, and the lower part above it, need no more room
pub swapped_below : (p q e : ℕ) → 0 < p → e < q * p → e / p + e % p * q < q * p
swapped_below p q e positive below =
    let upper : e / p < q = (div-lt_iff_lt-mul positive).1 below in
    let lower : e % p < p = mod-lt e positive in
    let product : (e % p + 1) * q ≤ p * q = mul-le-mul_right q (omega arith) in
    omega arith

-- a number of `size` bits that is rotated by some places
pub rotated_below : (size places e p q : ℕ) → places ≤ size → p ≡ 2 ^ places → q ≡ 2 ^ (size - places) → e < 2 ^ size
    → e / p + e % p * q < 2 ^ size
rotated_below size places e p q room is_p is_q below =
    let positive : 0 < p = rw is_p (pow_pos places) in
    let whole : q * p ≡ 2 ^ size =
    rw (is_p, is_q, ← pow-add 2 (size - places) places) (ap (λ n. 2 ^ n) (omega arith)) in
    rw (← whole) (swapped_below p q e positive (rw whole below))

-- no weight of 64 bits or fewer is above 2 ^ 64
pub weight_fits : (size : ℕ) → size ≤ 64 → 2 ^ size ≤ 2 ^ 64
weight_fits size room = pow_mono room

-- fewer ones than the element has bits
pub ones_below : (count size : ℕ) → count ≤ size → 2 ^ count - 1 < 2 ^ size
ones_below count size room =
    let wide_enough : 2 ^ count ≤ 2 ^ size = pow_mono room in
    omega (arith, wide_enough, pow_pos count)

-- a small weight in 32 bits
pub weight_in_word : (place : ℕ) → place ≤ 6 → 1 * 2 ^ place % 4294967296 ≡ 2 ^ place
weight_in_word place room =
    let small : 2 ^ place ≤ 2 ^ 6 = pow_mono room in
    let fits : 2 ^ place < 4294967296 = omega (arith, small) in
    rw (one-mul (2 ^ place)) (mod-eq_of_lt fits)
