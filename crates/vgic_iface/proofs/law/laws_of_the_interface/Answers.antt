use Rattle.std.proofs.Common.{arith, ◌≡◌, ℕ, ◌<◌, ◌*◌, ◌/◌, sym, subst, ◌==◌, false}
use Rattle.std.proofs.lemmas.Bool.Decides.{nat_tests}
use Rattle.std.specs.Int.{bit_at, trailing_zeros, w32}
use Rattle.std.proofs.lemmas.Nat.Bits.{bit_at-trailing_zeros}
use Rattle.vgic_iface.specs.Active.{running}
use Rattle.vgic_iface.proofs.LeastLemmas.{least_le, least-found}
use Rattle.vgic_iface.proofs.law.laws_of_the_interface.Goals as goal

pub returns-clause-first : goal.returns-clause-first
returns-clause-first c = least_le

pub returns-clause-found : goal.returns-clause-found
returns-clause-found c = least-found

running-bit : (active : ℕ) → 0 < active → running active / 8 ≡ trailing_zeros w32 active
running-bit active some =
    let off : (active == 0) ≡ false = grind (arith, nat_tests) in
    rw off (eighth (trailing_zeros w32 active))
  where
    eighth : (n : ℕ) → 8 * n / 8 ≡ n
    eighth n = omega arith

pub returns-clause-running : goal.returns-clause-running
returns-clause-running c active some fits =
    subst (λ place. (bit_at active place ≡ 1) × ((bit : ℕ) → bit < place → bit_at active bit ≡ 0)) (sym (running-bit active some))
    (let lowest = bit_at-trailing_zeros w32 active some fits in (lowest.1, lowest.2))
