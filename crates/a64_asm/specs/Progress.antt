-- One line of a source, taken or refused. No public clause cites this module.
use Rattle.std.specs.Prelude.{◌≡◌, ℕ, ◌+◌, ◌++◌, List, Option, None, Some, ⊤}
use Rattle.a64_asm.specs.Source.{judged, broken_by, bytes_in, next_of}
use Rattle.a64_asm.specs.declared.label.Definition.{Definition}
use Rattle.a64_asm.specs.declared.source.Progress.{Progress}
use Rattle.a64_asm.specs.declared.error.AsmError.{AsmError}
use Rattle.a64_asm.specs.declared.error.AsmError.TheVariants.{BadLine, OutOfMemory}

-- the line breaks no rule, and was taken
pub record TakesLine (labels : List ℕ → Option Definition) (before : Progress) (line : List ℕ) (after : Progress) : Type 0 where
  pub kept : broken_by (judged labels before.here line) ≡ None
  pub bytes : after.image.items ≡ before.image.items ++ bytes_in (judged labels before.here line)
  pub place : after.here ≡ next_of before.here line

-- the line breaks this rule first, unless memory ran out
abbrev pub IsRefused : (List ℕ → Option Definition) → Progress → List ℕ → AsmError → Type 0
IsRefused labels before line (BadLine number rule) =
    (number ≡ before.here.line + 1) × (broken_by (judged labels before.here line) ≡ Some rule)
IsRefused labels before line OutOfMemory = ⊤
