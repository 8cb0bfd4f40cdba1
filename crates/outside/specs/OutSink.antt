-- What a contract sees of an `OutSink`, and what writing a whole text does to its writer.
use Rattle.std.specs.Prelude.{◌≡◌, ℕ, Bool, List, ◌++◌, Option, None, Result, MatchResult, if◌then◌else◌}
use Rattle.std.specs.Io.KnownBytes.{Appends}

pub record OutSinkData (W : Type 0) : Type 0 where
  pub writer : W
  -- the sink tells what its writer holds
  pub tells : Bool
  pub faults : ℕ

-- what an `OutSink` tells, if its writer holds these bytes
abbrev pub told_bytes : Bool → Option (List ℕ) → Option (List ℕ)
told_bytes tells contents = if tells then contents else None

-- known bytes grow by some first ones of these, and the others aren't written
pub record AppendsPart (old new : Option (List ℕ)) (bytes : List ℕ) : Type 0 where
  pub part : List ℕ
  pub left : List ℕ
  pub splits : bytes ≡ part ++ left
  pub appends : Appends old new part

-- at Ok all bytes were written, at Err some first ones of them; nothing is said of a writer whose bytes aren't known
abbrev pub WritesWhole : {T E : Type 0} → Option (List ℕ) → Option (List ℕ) → List ℕ → Result T E → Type 0
WritesWhole old new bytes result = MatchResult result (λ _. Appends old new bytes) (λ _. AppendsPart old new bytes)
