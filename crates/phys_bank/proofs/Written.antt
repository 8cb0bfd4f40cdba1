-- What was written, for a caller whose memory is a function of the address.
use Rattle.std.proofs.Common.{◌≡◌, ℕ, ◌+◌, ◌-◌, ◌<◌, ◌≤◌, ◌⊎◌, inl, inr, Bool, true, false, List, [], ◌∷◌, length, slice_index, refl, ap, ◌∙◌, arith}
use Rattle.std.specs.Prelude.{nat_le, nat_lt, ◌&&◌, ◌==◌, if◌then◌else◌}
use Rattle.std.proofs.lemmas.Bool.Decides.{nat_tests}
use Rattle.phys_bank.specs.Banks.{BanksData, byte_at, IsWritten}

module _ (old new : BanksData) (from : ℕ) (bytes : List ℕ) (written : IsWritten old new from bytes) where
  -- the bytes lie over those that were there
  abbrev over : (ℕ → ℕ) → ℕ → ℕ
  over was at = if nat_le from at && nat_lt at (from + length bytes) then slice_index bytes (at - from) else was at

  byte-over : (at : ℕ) (low high : Bool) → nat_le from at ≡ low → nat_lt at (from + length bytes) ≡ high
      → byte_at new at ≡ (if low && high then slice_index bytes (at - from) else byte_at old at)
  byte-over at true true l h =
      let place : at ≡ from + (at - from) = grind (arith, nat_tests) in let less : at - from < length bytes = grind (arith, nat_tests) in
      ap (byte_at new) place ∙ written.here (at - from) less
  byte-over at true false l h = let past : from + length bytes ≤ at = grind (arith, nat_tests) in written.others at (inr past)
  byte-over at false high l h = let before : at < from = grind (arith, nat_tests) in written.others at (inl before)

  pub bytes-over : byte_at new ≡ over (byte_at old)
  bytes-over = λ i at. byte-over at (nat_le from at) (nat_lt at (from + length bytes)) refl refl i

-- one byte is written, and all others stay
module _ (old new : BanksData) (at value : ℕ) (written : IsWritten old new at (value ∷ [])) where
  byte-with : (place : ℕ) (here : Bool) → (place == at) ≡ here → byte_at new place ≡ (if here then value else byte_at old place)
  byte-with place true e =
      let same : place ≡ at + 0 = grind (arith, nat_tests) in ap (byte_at new) same ∙ written.here 0 (omega arith)
  byte-with place false e = written.others place (either (nat_lt place at) refl)
    where
      either : (less : Bool) → nat_lt place at ≡ less → (place < at) ⊎ (at + 1 ≤ place)
      either true l = inl (grind (arith, nat_tests))
      either false l = inr (grind (arith, nat_tests))

  pub byte-over_one : byte_at new ≡ (λ place. if place == at then value else byte_at old place)
  byte-over_one = λ i place. byte-with place (place == at) refl i
