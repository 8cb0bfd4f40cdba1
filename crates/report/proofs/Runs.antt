-- Bytes of memory, one after the other.
use Rattle.std.proofs.Common.{◌≡◌, ℕ, zero, suc, ◌+◌, [], ◌∷◌, ◌++◌, length, refl, ap, ◌∙◌, arith, add-one}
use Rattle.report.specs.Section.{run_of}

run_of-suc : (bytes : ℕ → ℕ) (at n : ℕ) → run_of bytes at (suc n) ≡ run_of bytes at n ++ bytes (at + n) ∷ []
unfolding run_of
run_of-suc bytes at zero = ap (λ p. bytes p ∷ []) (omega arith)
run_of-suc bytes at (suc n) =
    ap (λ t. bytes at ∷ t) (run_of-suc bytes (at + 1) n ∙ ap (λ p. run_of bytes (at + 1) n ++ bytes p ∷ []) (omega arith))

-- one byte more
pub run_of_more : (bytes : ℕ → ℕ) (at n : ℕ) → run_of bytes at (n + 1) ≡ run_of bytes at n ++ bytes (at + n) ∷ []
run_of_more bytes at n = rw add-one (run_of-suc bytes at n)

pub run_of_none : (bytes : ℕ → ℕ) (at : ℕ) → [] ≡ run_of bytes at 0
unfolding run_of
run_of_none bytes at = refl

pub length_run_of : (bytes : ℕ → ℕ) (at n : ℕ) → length (run_of bytes at n) ≡ n
unfolding run_of
length_run_of bytes at zero = refl
length_run_of bytes at (suc n) = ap suc (length_run_of bytes (at + 1) n)
