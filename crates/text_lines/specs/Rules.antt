-- What the lines of a text give, of which each may break a rule.
use Rattle.std.specs.Prelude.{ℕ, Option, None, Some}

-- the answer for a rule that a line breaks, else what the later lines give
abbrev pub unless_broken : {Answer : Type 0} → (ℕ → Answer) → Option ℕ → Answer → Answer
unless_broken broken None later = later
unless_broken broken (Some rule) later = broken rule
