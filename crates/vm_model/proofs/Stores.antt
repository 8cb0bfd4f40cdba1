-- What a step stores, byte by byte.
use Rattle.std.proofs.Common.{◌≡◌, ℕ, Bool, true, false, List, [], ◌∷◌, refl, sym, ap, ◌∙◌, arith}
use Rattle.std.specs.Prelude.{IsTrue, IsFalse, ◌==◌, if◌then◌else◌, filter}
use Rattle.std.proofs.lemmas.Bool.Decides.{nat_tests}
use Rattle.board.specs.Machine.{with_byte, written}
use Rattle.board.proofs.Reached.{AllStored}

-- one byte after the same write
pub with_byte_alike : (f g : ℕ → ℕ) (place value at : ℕ) → f at ≡ g at → with_byte place value f at ≡ with_byte place value g at
with_byte_alike f g place value at same = ap (λ old. if at == place then value else old) same

-- and after the same writes
pub written_alike : (stores : List (ℕ × ℕ)) (f g : ℕ → ℕ) (at : ℕ) → f at ≡ g at → written stores f at ≡ written stores g at
written_alike [] f g at same = same
written_alike (store ∷ stores) f g at same =
    written_alike stores (with_byte store.0 store.1 f) (with_byte store.0 store.1 g) at
    (with_byte_alike f g store.0 store.1 at same)

-- of writes that pass a test, those that are kept are all that a byte sees
module _ (test kept : ℕ → Bool) (at : ℕ) (sees : (place : ℕ) → IsTrue (test place) → at ≡ place → IsTrue (kept place)) where
  unseen : (f : ℕ → ℕ) (place value : ℕ) (here : Bool) → (at == place) ≡ here → IsTrue (test place) → IsFalse (kept place)
      → with_byte place value f at ≡ f at
  unseen f place value true e passes lost =
      let same : at ≡ place = grind (arith, nat_tests) in let clash : true ≡ false = sym (sees place passes same) ∙ lost in cc
  unseen f place value false e passes lost = rw e refl

  pub kept_alike : (stores : List (ℕ × ℕ)) (f g : ℕ → ℕ) → AllStored test stores → f at ≡ g at
      → written stores f at ≡ written (filter (λ store. kept store.0) stores) g at
  unfolding AllStored
  kept_alike [] f g all same = same
  kept_alike (store ∷ stores) f g all same =
      by_kept (kept store.0) refl (kept_alike stores (with_byte store.0 store.1 f))
    where
      by_kept : (k : Bool) → kept store.0 ≡ k
          → ((g' : ℕ → ℕ) → AllStored test stores → with_byte store.0 store.1 f at ≡ g' at
          → written stores (with_byte store.0 store.1 f) at ≡ written (filter (λ s. kept s.0) stores) g' at)
          → written stores (with_byte store.0 store.1 f) at
          ≡ written (if k then store ∷ filter (λ s. kept s.0) stores else filter (λ s. kept s.0) stores) g at
      by_kept true e rest = rest (with_byte store.0 store.1 g) all.1 (with_byte_alike f g store.0 store.1 at same)
      by_kept false e rest = rest g all.1 (unseen f store.0 store.1 (at == store.0) refl all.0 e ∙ same)
