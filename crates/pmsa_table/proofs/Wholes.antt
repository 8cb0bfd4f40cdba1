-- Lists of spans, and lists that were sorted in place.
use Rattle.std.proofs.Common.{◌≡◌, ℕ, ◌<◌, ◌≤◌, Bool, true, false, ◌||◌, nat_le, List, [], ◌∷◌, ◌++◌, length, refl, ◌∙◌, arith}
use Rattle.std.specs.List.{list_any, refill}
use Rattle.std.proofs.lemmas.Bool.Decides.{nat_tests}
use Rattle.std.proofs.lemmas.Grind.{common_steps}
use Rattle.std.proofs.lemmas.List.Folds.{list_any-append}
use Rattle.pmsa_table.specs.declared.span.Span.{Span}
use Rattle.pmsa_table.specs.Span.{has}

-- a list that was filled with as many elements is these
pub refill_same : (xs ys : List ℕ) → length ys ≡ length xs → refill (length xs) xs ys ≡ ys
refill_same xs ys same = grind (arith, common_steps)

any_or : (one other : Bool) → (one ≡ false → other ≡ true) → (one || other) ≡ true
any_or true other later = refl
any_or false other later = later refl

-- a byte up to the end of a span that is added is in one, if each byte before it was
pub whole_pushed :
    (spans : List Span) (span : Span) (at : ℕ) → (at < span.first → list_any (λ s. has s at) spans ≡ true) → at ≤ span.last →
    list_any (λ s. has s at) (spans ++ span ∷ []) ≡ true
whole_pushed spans span at before to =
    list_any-append (λ s. has s at) spans (span ∷ []) ∙ here (nat_le span.first at) refl
  where
    here : (from : Bool) → nat_le span.first at ≡ from → (list_any (λ s. has s at) spans || list_any (λ s. has s at) (span ∷ [])) ≡ true
    here true is = grind (arith, nat_tests)
    here false is = grind (arith, nat_tests)
