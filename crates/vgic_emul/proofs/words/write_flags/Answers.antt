use Rattle.std.proofs.Common.{ℕ, sym}
use Rattle.vgic_table.specs.Interrupts.{Interrupts}
use Rattle.vgic_emul.specs.Effects.{changed}
use Rattle.vgic_emul.specs.Reached.{with_flag}
use Rattle.vgic_emul.proofs.WordsLemmas.{changed_by_bits-none, changed_by_bits-set, changed_by_bits-clear}
use Rattle.vgic_emul.proofs.words.write_flags.Goals as goal
use Rattle.vgic_emul.proofs.words.write_flags.Goals.{then-value-bit-eq1, else-value-bit-eq1}

pub loop-bit-init : goal.loop-bit-init
loop-bit-init c =
    sym
    (changed_by_bits-none (λ id vm. changed vm c.args.core id (with_flag c.args.flag c.args.on)) c.args.table.now c.args.value
    c.args.first)

pub loop-bit-preserved : goal.loop-bit-preserved
loop-bit-preserved c =
    let vm = c.args.table.now in
    let change : ℕ → Interrupts → Interrupts = λ id vm. changed vm c.args.core id (with_flag c.args.flag c.args.on) in
    elim c.if-value-bit-eq1.branch [
      | then-value-bit-eq1 w ↦
          cc (changed_by_bits-set change vm c.args.value c.args.first c.loop-bit.bit w.if-value-bit-eq1.true)
      | else-value-bit-eq1 w ↦
          cc (changed_by_bits-clear change vm c.args.value c.args.first c.loop-bit.bit w.if-value-bit-eq1.false)
    ]
