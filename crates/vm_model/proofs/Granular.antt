-- Ranges that are multiples of 16 hold 16 bytes from a multiple of 16 on, or none of them.
use Rattle.std.proofs.Common.{◌≡◌, ℕ, ◌+◌, ◌*◌, ◌/◌, ◌%◌, ◌<◌, ◌≤◌, Bool, true, false, refl, ap, ◌∙◌, arith}
use Rattle.std.specs.Prelude.{◌&&◌, nat_le, nat_lt}
use Rattle.std.proofs.Math.Nat.{div-add-mod}
use Rattle.std.proofs.lemmas.Bool.Decides.{nat_tests}
use Rattle.vm_model.specs.Apart.{IsGranular}
use Rattle.vm_model.specs.Pair.{pair, vm_a, vm_b}

module _ (b at k : ℕ) (aligned : at % 16 ≡ 0) (low : k < 16) where
  whole : at ≡ 16 * (at / 16)
  whole = let e = div-add-mod at 16 in omega (arith, e, aligned)

  from_border : (t : Bool) → nat_le (16 * b) at ≡ t → nat_le (16 * b) (at + k) ≡ t
  from_border true e =
      let here : 16 * b ≤ at = grind (arith, nat_tests) in let there : 16 * b ≤ at + k = omega arith in grind (arith, nat_tests)
  from_border false e =
      let here : at < 16 * b = grind (arith, nat_tests) in
      let there : at + k < 16 * b = (let w = whole in omega (arith, w)) in grind (arith, nat_tests)

  below_border : (t : Bool) → nat_lt at (16 * b) ≡ t → nat_lt (at + k) (16 * b) ≡ t
  below_border true e =
      let here : at < 16 * b = grind (arith, nat_tests) in
      let there : at + k < 16 * b = (let w = whole in omega (arith, w)) in grind (arith, nat_tests)
  below_border false e =
      let here : 16 * b ≤ at = grind (arith, nat_tests) in let there : 16 * b ≤ at + k = omega arith in grind (arith, nat_tests)

within_alike : (base end at k : ℕ) → at % 16 ≡ 0 → k < 16
    → (nat_le (16 * base) (at + k) && nat_lt (at + k) (16 * end)) ≡ (nat_le (16 * base) at && nat_lt at (16 * end))
within_alike base end at k aligned low =
    ap (λ b. b && nat_lt (at + k) (16 * end)) (from_border base at k aligned low (nat_le (16 * base) at) refl)
    ∙ ap (λ b. nat_le (16 * base) at && b) (below_border end at k aligned low (nat_lt at (16 * end)) refl)

pub a_is_granular : IsGranular pair vm_a
a_is_granular at k aligned low =
    let shared = within_alike 0x18000 0x18100 at k aligned low in
    let port = within_alike 0x9c09000 0x9c09004 at k aligned low in
    let memory = within_alike 0x10000 0x11000 at k aligned low in
    rw (shared, port, memory) refl

pub b_is_granular : IsGranular pair vm_b
b_is_granular at k aligned low =
    let shared = within_alike 0x18000 0x18100 at k aligned low in
    let port = within_alike 0x9c0a000 0x9c0a004 at k aligned low in
    let memory = within_alike 0x14000 0x15000 at k aligned low in
    rw (shared, port, memory) refl
