-- The least of a list of numbers.
use Rattle.std.specs.Prelude.{◌≡◌, ℕ, ◌≤◌, List, [], ◌∷◌, Option, Some, None, min, All, Contains, MatchOption}
use Rattle.std.specs.Option.{option_map_or}

-- the least number, if there is one
abbrev pub least : List ℕ → Option ℕ
least [] = None
least (number ∷ numbers) = Some (option_map_or (min number) (least numbers) number)

-- none where the list is empty; else one of its numbers, and none of them is less
abbrev pub IsLeast : Option ℕ → List ℕ → Type 0
IsLeast answer numbers = MatchOption answer (numbers ≡ []) (λ number. Contains numbers number × All (λ other. number ≤ other) numbers)
