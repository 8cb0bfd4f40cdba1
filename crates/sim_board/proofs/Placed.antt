-- Memory with one byte more of those that are copied.
use Rattle.std.proofs.Common.{◌≡◌, ℕ, ◌+◌, ◌-◌, ◌<◌, List, [], length, get_or, take, Bool, true, false, refl, sym, ap, ◌∙◌, arith, get_or-take, length-take}
use Rattle.std.specs.Prelude.{◌==◌, nat_le, nat_lt}
use Rattle.std.proofs.lemmas.Bool.Decides.{nat_tests}
use Rattle.board.specs.Machine.{over, with_byte}

-- memory with one byte more of those that are copied
module _ (at k : ℕ) (bytes : List ℕ) (old : ℕ → ℕ) (more : k < length bytes) where
  part_length : length (take k bytes) ≡ k
  part_length = rw length-take (omega arith)

  next_length : length (take (k + 1) bytes) ≡ k + 1
  next_length = rw length-take (omega arith)

  over_at : (a : ℕ) (from was will here : Bool) → nat_le at a ≡ from → nat_lt a (at + length (take k bytes)) ≡ was
      → nat_lt a (at + length (take (k + 1) bytes)) ≡ will → (a == at + k) ≡ here
      → over at (take (k + 1) bytes) old a ≡ with_byte (at + k) (get_or bytes k 0) (over at (take k bytes) old) a
  over_at a true true true true f w n h = absurd (grind (arith, nat_tests, part_length))
  over_at a true true true false f w n h =
      let low : a - at < k = grind (arith, nat_tests, part_length) in
      rw (f, w, n, h) (get_or-take (k + 1) bytes (a - at) 0 (omega (arith, low)) ∙ sym (get_or-take k bytes (a - at) 0 low))
  over_at a true true false here f w n h = absurd (grind (arith, nat_tests, part_length, next_length))
  over_at a true false true true f w n h =
      let equal : a - at ≡ k = grind (arith, nat_tests) in
      rw (f, w, n, h) (ap (λ i. get_or (take (k + 1) bytes) i 0) equal ∙ get_or-take (k + 1) bytes k 0 (omega arith))
  over_at a true false true false f w n h = absurd (grind (arith, nat_tests, part_length, next_length))
  over_at a true false false true f w n h = absurd (grind (arith, nat_tests, next_length))
  over_at a true false false false f w n h = rw (f, w, n, h) refl
  over_at a false was will true f w n h = absurd (grind (arith, nat_tests))
  over_at a false was will false f w n h = rw (f, h) refl

  pub over-more : over at (take (k + 1) bytes) old ≡ with_byte (at + k) (get_or bytes k 0) (over at (take k bytes) old)
  over-more = λ i a.
      over_at a (nat_le at a) (nat_lt a (at + length (take k bytes))) (nat_lt a (at + length (take (k + 1) bytes))) (a == at + k)
      refl refl refl refl i

-- before the first of them
pub over-none : (at : ℕ) (old : ℕ → ℕ) → over at [] old ≡ old
over-none at old = λ i a. none_at a (nat_le at a) (nat_lt a (at + 0)) refl refl i
  where
    none_at : (a : ℕ) (from to : Bool) → nat_le at a ≡ from → nat_lt a (at + 0) ≡ to → over at [] old a ≡ old a
    none_at a true true f t = absurd (grind (arith, nat_tests))
    none_at a true false f t = rw (f, t) refl
    none_at a false to f t = rw f refl
