-- PSTATE is made of its parts, so that what an SPSR has kept of it is all of it.
use Rattle.std.proofs.Common.{◌≡◌, ℕ, ◌^◌, ◌<◌, inl, inr, refl, arith}
use Rattle.std.specs.Prelude.{◌==◌, if◌then◌else◌}
use Rattle.bao_types.specs.Bits.{field}
use Rattle.a64_state.specs.Pstate.{mode, IsMode, IsPstate}
use Rattle.a64_state.specs.Parts.{parts_of}
use Rattle.a64_state.specs.Mode.{mode_of}
use Rattle.exceptions.specs.Assembled.{pstate_of}
use Rattle.exceptions.specs.Return.{parts_after}

-- a bit as a number and back
bit-back : (b : ℕ) → b < 2 → (if b == 1 then 1 else 0) ≡ b
bit-back b small = grind arith

pub pstate_of-parts_of : (p : ℕ) → p < 2 ^ 32 → IsPstate p → pstate_of (parts_of p) ≡ p
pstate_of-parts_of p bound is =
    let il : (if field p 20 20 == 1 then 1 else 0) ≡ field p 20 20 = bit-back (field p 20 20) (omega arith) in
    omega (arith, il, is.high, is.middle, is.low)

-- a legal mode comes back
pub parts_after-legal : (p from : ℕ) → IsMode (mode p) → parts_after p from (mode_of p) ≡ parts_of p
parts_after-legal p from (inl at) = rw at refl
parts_after-legal p from (inr (inl at)) = rw at refl
parts_after-legal p from (inr (inr at)) = rw at refl
