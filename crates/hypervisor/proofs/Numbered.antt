-- A list that is made of numbered elements, one more at a time.
use Rattle.std.proofs.Common.{◌≡◌, ℕ, ◌+◌, ◌<◌, List, [], ◌∷◌, ◌++◌, map, length, get_or, drop, sym, ap, ◌∙◌, append_assoc}
use Rattle.std.specs.List.{enumerate_from}
use Rattle.std.proofs.lemmas.List.{drop_more}

pub one_more : {A B : Type 0} (f : ℕ × A → B) (xs : List A) (i : ℕ) (d : A) (before after whole : List B) → i < length xs
    → before ++ map f (enumerate_from i (drop i xs)) ≡ whole → after ≡ before ++ f (i, get_or xs i d) ∷ []
    → after ++ map f (enumerate_from (i + 1) (drop (i + 1) xs)) ≡ whole
one_more f xs i d before after whole low so_far more =
    ap (λ ys. ys ++ map f (enumerate_from (i + 1) (drop (i + 1) xs))) more
    ∙ append_assoc before (f (i, get_or xs i d) ∷ []) (map f (enumerate_from (i + 1) (drop (i + 1) xs)))
    ∙ ap (λ ys. before ++ map f (enumerate_from i ys)) (sym (drop_more xs i d low)) ∙ so_far
