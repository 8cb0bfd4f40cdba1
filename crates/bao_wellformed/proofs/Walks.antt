-- A walk over the bounds of one list and then of another is one over both.
use Rattle.std.proofs.Common.{◌≡◌, ℕ, Bool, List, ◌++◌, Option, None, fold, sym, ap, ◌∙◌}
use Rattle.std.proofs.lemmas.List.Sums.{fold-append}
use Rattle.bao_wellformed.specs.ByteRules.{tried, least_of}

pub two_walks : (test : ℕ → Bool) (zeroth first second : Option ℕ) (xs ys : List ℕ) → zeroth ≡ tried test None 0
    → first ≡ fold (tried test) zeroth xs → second ≡ fold (tried test) first ys → second ≡ least_of test (xs ++ ys)
two_walks test zeroth first second xs ys at_zero one two =
    two ∙ ap (λ found. fold (tried test) found ys) (one ∙ ap (λ found. fold (tried test) found xs) at_zero)
    ∙ sym (fold-append (tried test) (tried test None 0) xs ys)
