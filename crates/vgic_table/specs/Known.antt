-- For private clauses: the best ranks of cores that the table remembers.
use Rattle.std.specs.Prelude.{◌≡◌, ℕ, ◌<◌, List, Some, slice_get}
use Rattle.vgic_table.specs.Interrupts.{Interrupts, best}

-- each rank that is known, and not 65535, is the core's best
abbrev pub AreKnown : Interrupts → List ℕ → Type 0
AreKnown vm known = (core rank : ℕ) → slice_get known core ≡ Some rank → rank < 65535 → rank ≡ best vm core
