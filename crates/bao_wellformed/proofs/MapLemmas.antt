-- Facts on maps.
use Rattle.std.proofs.Common.{◌≡◌, ℕ, ◌+◌, ◌<◌, List, [], ◌∷◌, ◌++◌, map, filter_map, reverse, length, get_or, take, option_to_list, Option, Some, None, append_assoc, refl, sym, ap, ◌∙◌}
use Rattle.std.proofs.lemmas.List.{take_more, reverse-append, map-append}
use Rattle.std.proofs.lemmas.List.Elements.{filter_map-append}
use Rattle.std.specs.List.{cons_option}

-- one more element is the first of the reversed list
pub reverse_more : {A : Type 0} (xs : List A) (i : ℕ) (x : A) → i < length xs → x ≡ get_or xs i x
    → reverse (take (i + 1) xs) ≡ x ∷ reverse (take i xs)
reverse_more xs i x low is =
    ap reverse (take_more xs i x low ∙ ap (λ y. take i xs ++ y ∷ []) (sym is)) ∙ reverse-append (take i xs) (x ∷ [])

-- what is picked of one more element
picked_last : {A B : Type 0} (f : A → Option B) (xs : List A) (x : A) → filter_map f (xs ++ x ∷ []) ≡ filter_map f xs ++ option_to_list (f x)
picked_last {A} {B} f xs x = filter_map-append f xs (x ∷ []) ∙ ap (λ ys. filter_map f xs ++ ys) (alone (f x))
  where
    alone : (o : Option B) → cons_option o [] ≡ option_to_list o
    alone None = refl
    alone (Some y) = refl

-- a walk that picks of one more element
pub one_picked : {A B C : Type 0} (f : B → Option C) (view : A → B) (xs : List A) (i : ℕ) (x d : A) (front before after : List C) (picked : Option C)
    → i < length xs → x ≡ get_or xs i d → picked ≡ f (view x) → before ≡ front ++ filter_map f (map view (take i xs)) → after ≡ before ++ option_to_list picked
    → after ≡ front ++ filter_map f (map view (take (i + 1) xs))
one_picked f view xs i x d front before after picked low is gives so_far more =
    more ∙ ap (λ ys. ys ++ option_to_list picked) so_far ∙ append_assoc front (filter_map f (map view (take i xs))) (option_to_list picked)
    ∙ ap (λ ys. front ++ ys)
    (ap (λ o. filter_map f (map view (take i xs)) ++ option_to_list o) gives
    ∙ sym
    (ap (λ ys. filter_map f (map view ys)) (take_more xs i d low ∙ ap (λ y. take i xs ++ y ∷ []) (sym is))
    ∙ ap (filter_map f) (map-append view (take i xs) (x ∷ [])) ∙ picked_last f (map view (take i xs)) (view x)))
