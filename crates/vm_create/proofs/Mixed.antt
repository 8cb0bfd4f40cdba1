-- A list that is set one element after another: the first ones are already the new list's.
use Rattle.std.proofs.Common.{◌≡◌, ℕ, zero, suc, ◌<◌, ◌≤◌, List, [], ◌∷◌, ◌++◌, length, take, drop, set, get_or, slice_get, Some, refl, sym, ap, ◌∙◌, arith}

abbrev pub mixed : {A : Type 0} → ℕ → List A → List A → List A
mixed i new old = take i new ++ drop i old

pub mixed_all : {A : Type 0} (new old : List A) → length new ≡ length old → mixed (length new) new old ≡ new
mixed_all [] [] same = refl
mixed_all [] (z ∷ zs) same = absurd (omega arith)
mixed_all (y ∷ ys) [] same = absurd (omega arith)
mixed_all (y ∷ ys) (z ∷ zs) same = ap (λ l. y ∷ l) (mixed_all ys zs (omega arith))

pub length_mixed : {A : Type 0} (i : ℕ) (new old : List A) → i ≤ length new → i ≤ length old → length (mixed i new old) ≡ length old
length_mixed zero new old low more = refl
length_mixed (suc i) [] old low more = absurd (omega arith)
length_mixed (suc i) (y ∷ ys) [] low more = absurd (omega arith)
length_mixed (suc i) (y ∷ ys) (z ∷ zs) low more = ap suc (length_mixed i ys zs (omega arith) (omega arith))

-- the element that comes next is still the old list's
pub mixed_next : {A : Type 0} (new old : List A) (i : ℕ) (d : A) → i ≤ length new → i < length old → get_or (mixed i new old) i d ≡ get_or old i d
mixed_next new old zero d low more = refl
mixed_next [] old (suc i) d low more = absurd (omega arith)
mixed_next (y ∷ ys) [] (suc i) d low more = absurd (omega arith)
mixed_next (y ∷ ys) (z ∷ zs) (suc i) d low more = mixed_next ys zs i d (omega arith) (omega arith)

pub mixed_set : {A : Type 0} (new old : List A) (i : ℕ) (x : A) → slice_get new i ≡ Some x → i < length old
    → set (mixed i new old) i x ≡ mixed (suc i) new old
mixed_set [] old i x got low = cc
mixed_set (y ∷ ys) [] i x got low = absurd (omega arith)
mixed_set (y ∷ ys) (z ∷ zs) zero x got low = let same : y ≡ x = cc in ap (λ a. a ∷ zs) (sym same)
mixed_set (y ∷ ys) (z ∷ zs) (suc i) x got low = ap (λ l. y ∷ l) (mixed_set ys zs i x got (omega arith))

pub mixed_same : {A : Type 0} (new old : List A) (i : ℕ) (x : A) → slice_get new i ≡ Some x → slice_get old i ≡ Some x
    → mixed i new old ≡ mixed (suc i) new old
mixed_same [] old i x one other = cc
mixed_same (y ∷ ys) [] i x one other = cc
mixed_same (y ∷ ys) (z ∷ zs) zero x one other =
    let first : y ≡ x = cc in let second : z ≡ x = cc in ap (λ a. a ∷ zs) (second ∙ sym first)
mixed_same (y ∷ ys) (z ∷ zs) (suc i) x one other = ap (λ l. y ∷ l) (mixed_same ys zs i x one other)
