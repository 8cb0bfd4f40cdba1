use Rattle.std.proofs.Common.{◌≡◌}
use Rattle.vgic_emul.specs.Effects.{flag_bits}
use Rattle.vgic_emul.specs.Reached.{has}
use Rattle.vgic_emul.proofs.words.flag_bits.Given as goal

abbrev pub invariant-loop-bit : goal.invariant-loop-bit
invariant-loop-bit l = l.value ≡ flag_bits l.table l.core (has l.flag) l.first l.bit
