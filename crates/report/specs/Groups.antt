-- Memory as the report's loops go over it: groups of 16 bytes of one kind, one after the other.
use Rattle.std.specs.Prelude.{ℕ, zero, suc, ◌+◌, ◌≤◌, ◌⊎◌, if◌then◌else◌, List, [], ◌++◌}
use Rattle.report.specs.Lines.{memory_line}
use Rattle.bao_wellformed.specs.declared.map.Kind.{Kind}
use Rattle.report.specs.Section.{run_of, are_zero, is_memory}

unfoldable pub plain_group : (ℕ → ℕ) → ℕ → List ℕ
plain_group bytes at = if are_zero (run_of bytes at 16) then [] else memory_line at (run_of bytes at 16)

unfoldable pub groups_text : (ℕ → ℕ) → ℕ → ℕ → List ℕ
groups_text bytes zero at = []
groups_text bytes (suc n) at = plain_group bytes at ++ groups_text bytes n (at + 16)

-- those of a kind that the VM has as memory
unfoldable pub alike_text : Kind → (ℕ → ℕ) → ℕ → ℕ → List ℕ
alike_text kind bytes n at = if is_memory kind then groups_text bytes n at else []

-- a bound isn't between two addresses
abbrev pub IsBeside : ℕ → ℕ → ℕ → Type 0
IsBeside bound at next = (bound ≤ at) ⊎ (next ≤ bound)
