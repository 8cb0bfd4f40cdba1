use Rattle.std.proofs.Common.{◌≡◌}
use Rattle.vgic_emul.specs.Effects.{changed, changed_by_bits}
use Rattle.vgic_emul.specs.Reached.{with_flag}
use Rattle.vgic_emul.proofs.words.write_flags.Given as goal

abbrev pub invariant-loop-bit : goal.invariant-loop-bit
invariant-loop-bit l =
    l.table ≡ changed_by_bits (λ id vm. changed vm l.core id (with_flag l.flag l.on)) l.initial.table l.value l.first l.bit
