-- Lemmas on the least number of a list, for this crate and its callers.
use Rattle.std.proofs.Common.{◌≡◌, ℕ, ◌≤◌, List, [], ◌∷◌, ◌++◌, Option, Some, None, min, refl, sym, ◌∙◌, ap, arith, subst, ◌⊎◌, inl, inr}
use Rattle.std.proofs.lemmas.List.Elements.{All-cons, All-nil, All-weaker, Contains-append_right}
use Rattle.std.specs.Prelude.{All, Contains}
use Rattle.std.specs.Option.{option_map_or}
use Rattle.gic_core.specs.Least.{least, IsLeast}

-- one more number at the end
pub least-push : (numbers : List ℕ) (number : ℕ) → least (numbers ++ number ∷ []) ≡ Some (option_map_or (min number) (least numbers) number)
least-push [] number = refl
least-push (first ∷ numbers) number =
    ap (λ rest. Some (option_map_or (min first) rest first)) (least-push numbers number) ∙ joined first number (least numbers)
  where
    joined : (first number : ℕ) (rest : Option ℕ) →
        Some (min first (option_map_or (min number) rest number)) ≡ Some (min number (option_map_or (min first) rest first))
    joined first number None = ap Some (omega arith)
    joined first number (Some rest) = ap Some (omega arith)

min_cases : (a b : ℕ) → (min a b ≡ a) ⊎ (min a b ≡ b)
min_cases a b = grind arith

-- the least number of a list is one of its numbers, and none of them is less
pub least_is_least : (numbers : List ℕ) → IsLeast (least numbers) numbers
least_is_least [] = refl
least_is_least (number ∷ numbers) = joined (least numbers) (least_is_least numbers)
  where
    joined : (rest : Option ℕ) → IsLeast rest numbers → IsLeast (Some (option_map_or (min number) rest number)) (number ∷ numbers)
    joined None none =
        ((0, omega arith, refl), subst (λ rest. All (λ other. number ≤ other) (number ∷ rest)) (sym none) (All-cons (λ other. number ≤ other) number [] (omega arith) (All-nil _)))
    joined (Some other) (found, below) = (by_order (min_cases number other), all_above)
      where
        all_above : All (λ one. min number other ≤ one) (number ∷ numbers)
        all_above =
            All-cons (λ one. min number other ≤ one) number numbers (omega arith)
            (All-weaker (λ one. other ≤ one) (λ one. min number other ≤ one) (λ one above. omega arith) numbers below)

        by_order : (min number other ≡ number) ⊎ (min number other ≡ other) → Contains (number ∷ numbers) (min number other)
        by_order (inl first) = subst (Contains (number ∷ numbers)) (sym first) (0, omega arith, refl)
        by_order (inr later) = subst (Contains (number ∷ numbers)) (sym later) (Contains-append_right (number ∷ []) numbers other found)
