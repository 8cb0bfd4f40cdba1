-- Bits that are moved, replaced and cut off.
use Rattle.std.proofs.Common.{◌≡◌, ◌<◌, ◌≤◌, ℕ, ◌+◌, ◌-◌, ◌*◌, ◌/◌, ◌%◌, ◌^◌, sym, ap, ◌∙◌, arith}
use Rattle.std.proofs.lemmas.Nat.{pow-add, pow_pos, shr_split, shr_below, mul-add-lt}
use Rattle.std.proofs.Math.Nat.{div-lt_iff_lt-mul, mul-le-mul_right, mod-lt, mul_comm, add-mod-mod}
use Rattle.std.proofs.Math.Pow.{mod-mod-pow}

-- the lowest bits of the lowest 64 bits
pub shorter : (n width : ℕ) → width ≤ 64 → n % 2 ^ 64 % 2 ^ width ≡ n % 2 ^ width
shorter n width room =
    let split : (64 - width) + width ≡ 64 = omega arith in
    ap (λ k. n % 2 ^ k % 2 ^ width) (sym split) ∙ mod-mod-pow n (64 - width) width

-- bits that replace others stay below the end
pub replaced_below : (value place count part : ℕ) → value < 2 ^ 64 → place + count ≤ 64 → part < 2 ^ count
    → value - value % 2 ^ (place + count) + part * 2 ^ place + value % 2 ^ place < 2 ^ 64
replaced_below value place count part value_below room part_below =
    let end : ℕ = 2 ^ (place + count) in
    let above : ℕ = 64 - (place + count) in
    let split : above + (place + count) ≡ 64 = omega arith in
    let whole : 2 ^ 64 ≡ 2 ^ above * end = ap (λ k. 2 ^ k) (sym split) ∙ pow-add 2 above (place + count) in
    let quotient : value / end < 2 ^ above = shr_below value above (place + count) (rw split value_below) in
    let parts : end ≡ 2 ^ place * 2 ^ count = pow-add 2 place count in
    let inner : part * 2 ^ place + value % 2 ^ place < 2 ^ place * 2 ^ count =
    mul-add-lt part (2 ^ place) (value % 2 ^ place) (2 ^ count) part_below (mod-lt value (pow_pos place)) in
    let outer : value / end * end + (part * 2 ^ place + value % 2 ^ place) < end * 2 ^ above =
    mul-add-lt (value / end) end (part * 2 ^ place + value % 2 ^ place) (2 ^ above) quotient (rw parts inner) in
    let turned : end * 2 ^ above ≡ 2 ^ 64 = mul_comm end (2 ^ above) ∙ sym whole in
    omega (arith, outer, turned, shr_split value (place + count))

-- the upper part below, and the lower part above it, need no more room
pub swapped_below : (p q e : ℕ) → 0 < p → e < q * p → e / p + e % p * q < q * p
swapped_below p q e positive below =
    let upper : e / p < q = (div-lt_iff_lt-mul positive).1 below in
    let lower : e % p < p = mod-lt e positive in
    let product : (e % p + 1) * q ≤ p * q = mul-le-mul_right q (omega arith) in
    omega arith

-- and so a rotation needs none
pub rotated_below : (width value amount : ℕ) → amount ≤ width → value < 2 ^ width
    → value / 2 ^ amount + value % 2 ^ amount * 2 ^ (width - amount) < 2 ^ width
rotated_below width value amount room below =
    let split : (width - amount) + amount ≡ width = omega arith in
    let whole : 2 ^ width ≡ 2 ^ (width - amount) * 2 ^ amount =
    ap (λ k. 2 ^ k) (sym split) ∙ pow-add 2 (width - amount) amount in
    rw whole (swapped_below (2 ^ amount) (2 ^ (width - amount)) value (pow_pos amount) (rw whole at below))

-- a sum with the lowest 64 bits of a number
pub sum_shorter : (a p width : ℕ) → width ≤ 64 → (a + p % 2 ^ 64) % 2 ^ 64 % 2 ^ width ≡ (a + p) % 2 ^ width
sum_shorter a p width room = rw (add-mod-mod a p (2 ^ 64)) (shorter (a + p) width room)
