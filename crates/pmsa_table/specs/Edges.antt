-- Where the verdicts of a list of entries may change.
use Rattle.std.specs.Prelude.{◌≡◌, ℕ, ◌-◌, ◌<◌, ◌≤◌, ◌^◌, ◌⊎◌, true, if◌then◌else◌, List, [], ◌∷◌, All}
use Rattle.std.specs.List.{flat_map, list_any}
use Rattle.bao_types.specs.declared.region.Region.{Region}
use Rattle.bao_types.specs.Region.{first_byte, last_byte, is_enabled}
use Rattle.pmsa_table.specs.declared.span.Span.{Span}
use Rattle.pmsa_table.specs.Span.{has, IsSpan}

-- the last byte before an entry's first one, and its own last byte; an entry that is off has no edge
abbrev pub edges_of : Region → List ℕ
edges_of entry = if is_enabled entry then (first_byte entry - 1) ∷ last_byte entry ∷ [] else []

abbrev pub all_edges : List Region → List ℕ
all_edges entries = flat_map edges_of entries

-- no edge is one of the addresses from first up to last, but for last itself
abbrev pub IsBeside : ℕ → ℕ → ℕ → Type 0
IsBeside first last edge = (edge < first) ⊎ (last ≤ edge)

-- the spans of a list of entries: each is right, and each byte of the address space is in one
pub record IsCompiled (entries : List Region) (spans : List Span) : Type 0 where
  pub right : All (IsSpan entries) spans
  pub whole : (at : ℕ) → at < 2 ^ 64 → list_any (λ span. has span at) spans ≡ true
