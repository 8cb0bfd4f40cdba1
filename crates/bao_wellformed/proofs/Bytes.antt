-- Where a map may change from one byte to another.
use Rattle.std.proofs.Common.{◌≡◌, ℕ, suc, ◌+◌, ◌%◌, ◌<◌, ◌≤◌, ◌==◌, Bool, true, false, cond, List, [], ◌∷◌, reverse, find, All, Some, refl, sym, subst, ap, ◌∙◌, arith, nat_le, nat_lt, ◌&&◌}
use Rattle.std.proofs.lemmas.Bool.{or_parts}
use Rattle.std.proofs.lemmas.Bool.Decides.{nat_tests}
use Rattle.std.proofs.lemmas.List.{reverse-append}
use Rattle.std.proofs.lemmas.List.Elements.{All-append, All-cons, All-head, All-nil, All-tail}
use Rattle.bao_types.specs.declared.range.ByteRange.{ByteRange}
use Rattle.bao_types.specs.ByteRange.{end, is_within}
use Rattle.bao_wellformed.specs.declared.map.MapEntry.{MapEntry}
use Rattle.bao_wellformed.specs.Map.{kind_of}
use Rattle.bao_wellformed.specs.ByteRules.{bounds_of, kind_in}
use Rattle.bao_wellformed.proofs.Least.{ChangesOnlyAt, is_listed}

find_alike : {A : Type 0} (p q : A → Bool) (xs : List A) → All (λ x. p x ≡ q x) xs → find p xs ≡ find q xs
find_alike p q [] all = refl
find_alike p q (x ∷ xs) all =
    ap (λ b. cond b (Some x) (find p xs)) (All-head (λ x. p x ≡ q x) x xs all)
    ∙ ap (λ rest. cond (q x) (Some x) rest) (find_alike p q xs (All-tail (λ x. p x ≡ q x) x xs all))

pub all_reversed : {A : Type 0} (P : A → Type 0) (xs : List A) → All P xs → All P (reverse xs)
all_reversed P [] all = All-nil P
all_reversed P (x ∷ xs) all =
    subst (All P) (sym (reverse-append (x ∷ []) xs))
    (All-append P (reverse xs) (x ∷ []) (all_reversed P xs (All-tail P x xs all)) (All-cons P x [] (All-head P x xs all) (All-nil P)))

-- two bytes that each entry contains or leaves out together are of one kind
pub kind_alike : (entries : List MapEntry) (one other : ℕ) → All (λ entry. is_within entry.range one ≡ is_within entry.range other) entries
    → kind_in entries one ≡ kind_in entries other
kind_alike entries one other alike =
    ap kind_of
    (find_alike (λ entry. is_within entry.range one) (λ entry. is_within entry.range other) (reverse entries)
    (all_reversed (λ entry. is_within entry.range one ≡ is_within entry.range other) entries alike))

pub within_next : (range : ByteRange) (at : ℕ) → (range.base == suc at) ≡ false → (end range == suc at) ≡ false → is_within range (suc at) ≡ is_within range at
within_next range at base last =
    ap (λ b. b && nat_lt (suc at) (end range)) from ∙ ap (λ b. nat_le range.base at && b) before
  where
    from : nat_le range.base (suc at) ≡ nat_le range.base at
    from = grind (arith, nat_tests)

    before : nat_lt (suc at) (end range) ≡ nat_lt at (end range)
    before = grind (arith, nat_tests)

alike_next : (entries : List MapEntry) (at : ℕ) → is_listed (bounds_of entries) (suc at) ≡ false
    → All (λ entry. is_within entry.range (suc at) ≡ is_within entry.range at) entries
alike_next [] at unlisted = All-nil (λ entry. is_within entry.range (suc at) ≡ is_within entry.range at)
alike_next (entry ∷ entries) at unlisted =
    let outer = or_parts (entry.range.base == suc at) _ unlisted in
    let inner = or_parts (end entry.range == suc at) _ outer.1 in
    All-cons (λ entry. is_within entry.range (suc at) ≡ is_within entry.range at) entry entries (within_next entry.range at outer.0 inner.0)
    (alike_next entries at inner.1)

-- a map changes only where an entry begins or ends
pub kind_changes : (entries : List MapEntry) → ChangesOnlyAt (bounds_of entries) (kind_in entries)
kind_changes entries at unlisted = kind_alike entries (suc at) at (alike_next entries at unlisted)

-- the bytes of a granule lie in a range of granules together, or not at all
module _ (base size at k : ℕ) (base_aligned : base % 64 ≡ 0) (size_aligned : size % 64 ≡ 0) (aligned : at % 64 ≡ 0) (low : k < 64) where
  from_alike : (t : Bool) → nat_le base at ≡ t → nat_le base (at + k) ≡ t
  from_alike true e = let here : base ≤ at = grind (arith, nat_tests) in let there : base ≤ at + k = omega arith in grind (arith, nat_tests)
  from_alike false e = let here : at < base = grind (arith, nat_tests) in let there : at + k < base = omega arith in grind (arith, nat_tests)

  before_alike : (t : Bool) → nat_lt at (base + size) ≡ t → nat_lt (at + k) (base + size) ≡ t
  before_alike true e = let here : at < base + size = grind (arith, nat_tests) in let there : at + k < base + size = omega arith in grind (arith, nat_tests)
  before_alike false e = let here : base + size ≤ at = grind (arith, nat_tests) in let there : base + size ≤ at + k = omega arith in grind (arith, nat_tests)

  pub within_granule : (nat_le base (at + k) && nat_lt (at + k) (base + size)) ≡ (nat_le base at && nat_lt at (base + size))
  within_granule =
      ap (λ b. b && nat_lt (at + k) (base + size)) (from_alike (nat_le base at) refl)
      ∙ ap (λ b. nat_le base at && b) (before_alike (nat_lt at (base + size)) refl)
