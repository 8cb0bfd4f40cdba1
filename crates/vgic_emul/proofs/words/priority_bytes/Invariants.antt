use Rattle.std.proofs.Common.{◌≡◌, ◌<◌, ◌*◌, ◌^◌}
use Rattle.vgic_emul.specs.Effects.{priority_bytes}
use Rattle.vgic_emul.proofs.words.priority_bytes.Given as goal

abbrev pub invariant-loop-byte : goal.invariant-loop-byte
invariant-loop-byte l = record {
  sum : l.value ≡ priority_bytes l.table l.core l.first l.byte;
  bound : l.value < 2 ^ (8 * l.byte);
}
