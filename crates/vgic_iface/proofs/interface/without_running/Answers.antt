use Rattle.std.proofs.Common.{arith, rules, ◌≡◌, ◌<◌, ◌≤◌, ◌^◌, ℕ}
use Rattle.std.specs.Int.{trailing_zeros, bit_at, w32}
use Rattle.std.proofs.lemmas.Nat.Bits.{bit_at-trailing_zeros, bit_at_above}
use Rattle.std.proofs.Math.Pow.{pow-lt}
use Rattle.vgic_iface.proofs.interface.without_running.Goals as goal

-- a number with a bit set is no less than the bit's weight
le_of_bit : (n k : ℕ) → bit_at n k ≡ 1 → 2 ^ k ≤ n
le_of_bit n k on = grind (arith, bit_at_above n k k)

pub overflow_sub-result : goal.overflow_sub-result
overflow_sub-result c =
    let lowest = bit_at-trailing_zeros w32 c.args.active (omega (arith, c.if-active-eq0.false)) (search rules) in
    let weight : 2 ^ trailing_zeros w32 c.args.active < 2 ^ 32 = pow-lt lowest.0 in
    omega (arith, le_of_bit c.args.active (trailing_zeros w32 c.args.active) lowest.1)
