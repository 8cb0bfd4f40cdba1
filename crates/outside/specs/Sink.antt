-- What a put leaves of a sink.
use Rattle.std.specs.Prelude.{◌≡◌, ℕ, List, ◌++◌, Option, None, Some, Result, MatchResult}
use Rattle.outside.specs.Faults.{risen}

-- what a sink tells once it has taken these bytes more: nothing where it told nothing
unfoldable pub grown : Option (List ℕ) → List ℕ → Option (List ℕ)
grown None bytes = None
grown (Some taken) bytes = Some (taken ++ bytes)

-- some first bytes of these were taken, and the others weren't
pub record TakesPart (old new : Option (List ℕ)) (bytes : List ℕ) : Type 0 where
  pub part : List ℕ
  pub left : List ℕ
  pub splits : bytes ≡ part ++ left
  pub grows : new ≡ grown old part

-- at Ok all bytes were taken, at Err some first ones of them
abbrev pub Takes : {T E : Type 0} → Option (List ℕ) → Option (List ℕ) → List ℕ → Result T E → Type 0
Takes old new bytes result = MatchResult result (λ _. new ≡ grown old bytes) (λ _. TakesPart old new bytes)

-- a failure is counted, and a success leaves the count
abbrev pub HasCause : {T E : Type 0} → ℕ → ℕ → Result T E → Type 0
HasCause before now result = MatchResult result (λ _. now ≡ before) (λ _. now ≡ risen before)
