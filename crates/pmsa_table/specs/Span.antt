-- What a contract sees of a `Span`: addresses on which the second stage gives one verdict for each kind of access.
use Rattle.std.specs.Prelude.{◌≡◌, ℕ, ◌≤◌, nat_le, Bool, ◌&&◌, List}
use Rattle.bao_types.specs.declared.access.Access.{Access}
use Rattle.bao_types.specs.declared.access.Access.TheVariants.{Read, Write, Exec}
use Rattle.bao_types.specs.declared.access.Verdict.{Verdict}
use Rattle.bao_types.specs.declared.region.Region.{Region}
use Rattle.pmsa_stage2.specs.Stage2.{stage2}
use Rattle.pmsa_table.specs.declared.span.Span.{Span}

-- the byte is one of the span's, the last one included
abbrev pub has : Span → ℕ → Bool
has span at = nat_le span.first at && nat_le at span.last

-- what the span says of an access
abbrev pub span_verdict : Span → Access → Verdict
span_verdict span Read = span.read
span_verdict span Write = span.write
span_verdict span Exec = span.exec

-- the span has the second stage's verdict for each access to each of its bytes
abbrev pub IsSpan : List Region → Span → Type 0
IsSpan entries span =
    (at : ℕ) (access : Access) → span.first ≤ at → at ≤ span.last → span_verdict span access ≡ stage2 entries access at
