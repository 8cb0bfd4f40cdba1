-- How faults are counted, and how they are brought about in memory.
use Rattle.std.specs.Prelude.{ℕ, ◌+◌, ◌-◌, ◌^◌, min, max, Bool, List, ◌==◌}
use Rattle.std.specs.List.{list_any}

-- a count of faults after one more: it stands still at its last value
abbrev pub risen : ℕ → ℕ
risen before = max before (min (before + 1) (2 ^ 64 - 1))

-- calls are counted from 1, and the count stands still at its last value
abbrev pub next_call : ℕ → ℕ
next_call calls = min (calls + 1) (2 ^ 64 - 1)

-- the call of this number is to fail
abbrev pub is_listed : List ℕ → ℕ → Bool
is_listed failing call = list_any (λ listed. listed == call) failing
