-- A mask that is built bit by bit, from a test of places.
use Rattle.std.proofs.Common.{◌≡◌, ◌≢◌, ◌↔◌, ℕ, zero, suc, ◌*◌, ◌%◌, ◌+◌, ◌^◌, ◌<◌, ◌≤◌, inl, inr, ◌⊎◌, Bool, true, false, IsTrue, bit_or, max, refl, sym, ap, ◌∙◌, arith, nat_lt, ◌&&◌, cond}
use Rattle.std.specs.Int.{bit_at, IsBitSet}
use Rattle.std.proofs.lemmas.Bool.{cases_order}
use Rattle.std.proofs.lemmas.Bool.Decides.{nat_tests}
use Rattle.std.proofs.lemmas.Nat.{bit_set_by_shift}
use Rattle.std.proofs.lemmas.Nat.Bits.{bit_at-zero, bit_at_or, bit_at-pow_same, bit_at-pow_other, shr_and_one, bit_at-lt}

-- of the places below a number the mask has those that pass, and it has no other
abbrev pub IsMask : (ℕ → Bool) → ℕ → ℕ → Type 0
IsMask test below mask = (v : ℕ) → bit_at mask v ≡ cond (nat_lt v below && test v) 1 0

pub mask_at_start : (test : ℕ → Bool) → IsMask test 0 0
mask_at_start test v = let none : nat_lt v 0 ≡ false = grind (arith, nat_tests) in rw none (bit_at-zero v)

module _ (test : ℕ → Bool) (below mask : ℕ) (so_far : IsMask test below mask) where
  pub bit_set : test below ≡ true → IsMask test (below + 1) (bit_or mask (2 ^ below))
  bit_set passes v = by_order (cases_order v below)
    where
      by_order : (v ≡ below) ⊎ ((v < below) ⊎ (below < v))
          → bit_at (bit_or mask (2 ^ below)) v ≡ cond (nat_lt v (below + 1) && test v) 1 0
      by_order (inl same) =
          let last : nat_lt v (below + 1) ≡ true = grind (arith, nat_tests) in
          let here : test v ≡ true = ap test same ∙ passes in
          let one : bit_at (2 ^ below) v ≡ 1 = ap (bit_at (2 ^ below)) same ∙ bit_at-pow_same below in
          let small = bit_at-lt mask v in
          rw last (rw here (bit_at_or mask (2 ^ below) v ∙ ap (max (bit_at mask v)) one ∙ (omega (arith, small))))
      by_order (inr (inl less)) =
          let within : nat_lt v (below + 1) ≡ nat_lt v below = grind (arith, nat_tests) in
          let other : v ≢ below = λ e. omega (arith, e, less) in
          let zero : bit_at (2 ^ below) v ≡ 0 = bit_at-pow_other below v other in
          rw within (bit_at_or mask (2 ^ below) v ∙ ap (max (bit_at mask v)) zero ∙ (omega arith) ∙ so_far v)
      by_order (inr (inr more)) =
          let within : nat_lt v (below + 1) ≡ nat_lt v below = grind (arith, nat_tests) in
          let other : v ≢ below = λ e. omega (arith, e, more) in
          let zero : bit_at (2 ^ below) v ≡ 0 = bit_at-pow_other below v other in
          rw within (bit_at_or mask (2 ^ below) v ∙ ap (max (bit_at mask v)) zero ∙ (omega arith) ∙ so_far v)

  pub bit_left : test below ≡ false → IsMask test (below + 1) mask
  bit_left fails v = by_order (cases_order v below)
    where
      by_order : (v ≡ below) ⊎ ((v < below) ⊎ (below < v)) → bit_at mask v ≡ cond (nat_lt v (below + 1) && test v) 1 0
      by_order (inl same) =
          let last : nat_lt v (below + 1) ≡ true = grind (arith, nat_tests) in
          let out : nat_lt v below ≡ false = grind (arith, nat_tests) in
          let here : test v ≡ false = ap test same ∙ fails in
          let old = so_far v in
          rw last (rw here (old ∙ ap (λ b. cond (b && test v) 1 0) out))
      by_order (inr (inl less)) =
          let within : nat_lt v (below + 1) ≡ nat_lt v below = grind (arith, nat_tests) in rw within (so_far v)
      by_order (inr (inr more)) =
          let within : nat_lt v (below + 1) ≡ nat_lt v below = grind (arith, nat_tests) in rw within (so_far v)

  -- where no place from there on passes, the mask has those that pass
  pub mask_whole : ((v : ℕ) → below ≤ v → test v ≡ false) → (v : ℕ) → IsBitSet mask v ↔ IsTrue (test v)
  mask_whole rest v = by_bit (test v) refl (by_order (cases_order v below))
    where
      by_order : (v ≡ below) ⊎ ((v < below) ⊎ (below < v)) → bit_at mask v ≡ cond (test v) 1 0
      by_order (inl same) =
          let out : nat_lt v below ≡ false = grind (arith, nat_tests) in
          let fails = rest v (omega (arith, same)) in so_far v ∙ rw out (rw fails refl)
      by_order (inr (inl less)) = let low : nat_lt v below ≡ true = grind (arith, nat_tests) in so_far v ∙ rw low refl
      by_order (inr (inr more)) =
          let out : nat_lt v below ≡ false = grind (arith, nat_tests) in
          let fails = rest v (omega (arith, more)) in so_far v ∙ rw out (rw fails refl)

      by_bit : (b : Bool) → test v ≡ b → bit_at mask v ≡ cond (test v) 1 0 → IsBitSet mask v ↔ IsTrue (test v)
      by_bit true passes bit = (λ set. passes, λ t. (bit_set_by_shift mask v).0 (shr_and_one mask v ∙ bit ∙ rw passes refl))
      by_bit false fails bit = (
        λ set. let one = sym (shr_and_one mask v) ∙ (bit_set_by_shift mask v).1 set in
            let zero : bit_at mask v ≡ 0 = bit ∙ rw fails refl in absurd (omega (arith, one, zero)),
        λ passes. let x : true ≡ false = sym passes ∙ fails in cc,
      )

-- a bit of a byte, as it is shifted
pub shifted : (v : ℕ) → v < 8 → 1 * 2 ^ v % 256 ≡ 2 ^ v
shifted zero low = refl
shifted (suc zero) low = refl
shifted (suc (suc zero)) low = refl
shifted (suc (suc (suc zero))) low = refl
shifted (suc (suc (suc (suc zero)))) low = refl
shifted (suc (suc (suc (suc (suc zero))))) low = refl
shifted (suc (suc (suc (suc (suc (suc zero)))))) low = refl
shifted (suc (suc (suc (suc (suc (suc (suc zero))))))) low = refl
shifted (suc (suc (suc (suc (suc (suc (suc (suc v)))))))) low = absurd (omega (arith, low))
