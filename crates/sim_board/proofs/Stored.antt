-- Bytes that the banks have written are those of the board's stores.
use Rattle.std.proofs.Common.{◌≡◌, ℕ, zero, suc, ◌+◌, ◌-◌, ◌/◌, ◌%◌, ◌^◌, ◌<◌, ◌≤◌, ◌⊎◌, inl, inr, Bool, true, false, slice_index, length, refl, sym, ap, ◌∙◌, arith}
use Rattle.std.specs.Prelude.{IsTrue, ◌&&◌, ◌==◌, nat_le, nat_lt, if◌then◌else◌}
use Rattle.std.proofs.lemmas.Bool.Decides.{nat_tests}
use Rattle.bao_types.specs.Bytes.{next_address, low_bytes}
use Rattle.phys_bank.specs.Banks.{BanksData, byte_at, IsWritten}
use Rattle.board.specs.Judge.{all_from}
use Rattle.board.specs.Ports.{stores_from}
use Rattle.board.specs.Machine.{with_byte, written}

split : (b rest : Bool) → IsTrue (b && rest) → IsTrue b × IsTrue rest
split true rest both = (refl, both)
split false rest both = cc

-- where all of this many bytes are kept, each is, and no address wraps
pub kept_run : (kept : ℕ → Bool) → ((at : ℕ) → kept at ≡ true → at < 2 ^ 48) → (at n : ℕ) → IsTrue (all_from kept at n)
    → (k : ℕ) → k < n → IsTrue (kept (at + k))
kept_run kept low at zero all k lt = absurd (omega (arith, lt))
kept_run kept low at (suc n) all zero lt =
    let here : at + 0 ≡ at = omega arith in
    ap kept here ∙ (split (kept at) (all_from kept (next_address at) n) all).0
kept_run kept low at (suc n) all (suc k) lt =
    let parts = split (kept at) (all_from kept (next_address at) n) all in
    let near = low at parts.0 in
    let place : at + suc k ≡ next_address at + k = omega (arith, near) in
    ap kept place ∙ kept_run kept low (next_address at) n parts.1 k (omega (arith, lt))

-- a byte that isn't stored to stays
stores_others : (n at value : ℕ) (old : ℕ → ℕ) (place : ℕ) → at + n < 2 ^ 64 → (place < at) ⊎ (at + n ≤ place)
    → written (stores_from at n value) old place ≡ old place
stores_others zero at value old place low other = refl
stores_others (suc n) at value old place low other =
    let next : next_address at ≡ at + 1 = omega (arith, low) in
    ap (λ a. written (stores_from a n (value / 256)) (with_byte at (value % 256) old) place) next
    ∙ stores_others n (at + 1) (value / 256) (with_byte at (value % 256) old) place (omega (arith, low)) (apart other)
    ∙ elsewhere (place == at) refl
  where
    apart : (place < at) ⊎ (at + suc n ≤ place) → (place < at + 1) ⊎ ((at + 1) + n ≤ place)
    apart (inl before) = inl (omega (arith, before))
    apart (inr past) = inr (omega (arith, past))

    elsewhere : (here : Bool) → (place == at) ≡ here → (if here then value % 256 else old place) ≡ old place
    elsewhere true e = let same : place ≡ at = grind (arith, nat_tests) in absurd (grind (arith, nat_tests))
    elsewhere false e = refl

-- one that is stored to has its byte of the value
stores_here : (n at value : ℕ) (old : ℕ → ℕ) (k : ℕ) → at + n < 2 ^ 64 → k < n
    → written (stores_from at n value) old (at + k) ≡ slice_index (low_bytes n value) k
stores_here zero at value old k low lt = absurd (omega (arith, lt))
stores_here (suc n) at value old zero low lt =
    let next : next_address at ≡ at + 1 = omega (arith, low) in
    let here : at + 0 ≡ at = omega arith in
    ap (λ p. written (stores_from (next_address at) n (value / 256)) (with_byte at (value % 256) old) p) here
    ∙ ap (λ a. written (stores_from a n (value / 256)) (with_byte at (value % 256) old) at) next
    ∙ stores_others n (at + 1) (value / 256) (with_byte at (value % 256) old) at (omega (arith, low)) (inl (omega arith))
    ∙ first (at == at) refl
  where
    first : (same : Bool) → (at == at) ≡ same → (if same then value % 256 else old at) ≡ value % 256
    first true e = refl
    first false e = absurd (grind (arith, nat_tests))
stores_here (suc n) at value old (suc k) low lt =
    let next : next_address at ≡ at + 1 = omega (arith, low) in
    let place : at + suc k ≡ (at + 1) + k = omega arith in
    ap (λ p. written (stores_from (next_address at) n (value / 256)) (with_byte at (value % 256) old) p) place
    ∙ ap (λ a. written (stores_from a n (value / 256)) (with_byte at (value % 256) old) ((at + 1) + k)) next
    ∙ stores_here n (at + 1) (value / 256) (with_byte at (value % 256) old) k (omega (arith, low)) (omega (arith, lt))

length-low_bytes : (n value : ℕ) → length (low_bytes n value) ≡ n
length-low_bytes zero value = refl
length-low_bytes (suc n) value = ap suc (length-low_bytes n (value / 256))

-- what the banks have written is what the board stores
module _ (old new : BanksData) (at n value : ℕ) (low : at + n < 2 ^ 64) (is : IsWritten old new at (low_bytes n value)) where
  long : length (low_bytes n value) ≡ n
  long = length-low_bytes n value

  by_place : (place : ℕ) (from to : Bool) → nat_le at place ≡ from → nat_lt place (at + n) ≡ to
      → byte_at new place ≡ written (stores_from at n value) (byte_at old) place
  by_place place true true f t =
      let k = place - at in
      let here : place ≡ at + k = grind (arith, nat_tests) in
      let lt : k < n = grind (arith, nat_tests) in
      ap (byte_at new) here ∙ is.here k (omega (arith, long, lt)) ∙ sym (stores_here n at value (byte_at old) k low lt)
      ∙ sym (ap (λ p. written (stores_from at n value) (byte_at old) p) here)
  by_place place true false f t =
      let past : at + n ≤ place = grind (arith, nat_tests) in
      is.others place (inr (omega (arith, long, past))) ∙ sym (stores_others n at value (byte_at old) place low (inr past))
  by_place place false to f t =
      let before : place < at = grind (arith, nat_tests) in
      is.others place (inl before) ∙ sym (stores_others n at value (byte_at old) place low (inl before))

  pub stored : byte_at new ≡ written (stores_from at n value) (byte_at old)
  stored = λ i place. by_place place (nat_le at place) (nat_lt place (at + n)) refl refl i
