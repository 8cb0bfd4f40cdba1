use Rattle.std.proofs.Common.{◌≡◌}
use Rattle.vgic_emul.specs.Effects.{with_priorities}
use Rattle.vgic_emul.proofs.words.write_priorities.Given as goal

abbrev pub invariant-loop-byte : goal.invariant-loop-byte
invariant-loop-byte l = l.table ≡ with_priorities l.initial.table l.core l.value l.first l.byte
