-- A loop that applies a function to each element in place.
use Rattle.std.proofs.Common.{◌≡◌, ℕ, ◌+◌, ◌<◌, List, [], ◌∷◌, ◌++◌, length, get_or, set, take, drop, map, sym, ◌∙◌, ap, arith, append_assoc}
use Rattle.std.proofs.lemmas.List.{take_more_set, drop-set-lt, drop_more}

-- what the loop makes of a list: the first `done` elements are as they are, the others are still to be changed
abbrev pub mapped_from : {X : Type 0} → (X → X) → ℕ → List X → List X
mapped_from f done xs = take done xs ++ map f (drop done xs)

pub mapped_from-more :
    {X : Type 0} (f : X → X) (xs : List X) (i : ℕ) (x : X) → i < length xs → x ≡ get_or xs i x →
    mapped_from f (i + 1) (set xs i (f x)) ≡ mapped_from f i xs
mapped_from-more f xs i x within is =
    (λ t. take_more_set xs i (f x) within t ++ map f (drop-set-lt (i + 1) xs i (f x) (omega arith) t))
    ∙ append_assoc (take i xs) (f x ∷ []) (map f (drop (i + 1) xs))
    ∙ ap (λ rest. take i xs ++ map f rest) (ap (λ y. y ∷ drop (i + 1) xs) is ∙ sym (drop_more xs i x within))
