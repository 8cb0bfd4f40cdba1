use Rattle.std.proofs.Common.{◌≡◌, ◌+◌, ◌<◌, ◌^◌, sym, subst, true, false, arith, rules}
use Rattle.std.proofs.lemmas.Nat.{one_shl, pow_below}
use Rattle.vgic_table.specs.Interrupts.{state_of}
use Rattle.vgic_emul.specs.Reached.{has}
use Rattle.vgic_emul.proofs.WordsLemmas.{flag_bits-none, flag_bits-on, flag_bits-off, flag_bits-lt}
use Rattle.vgic_emul.proofs.words.flag_bits.Goals as goal
use Rattle.vgic_emul.proofs.words.flag_bits.Goals.{then-is_on, else-is_on}

pub loop-bit-init : goal.loop-bit-init
loop-bit-init c = sym (flag_bits-none c.args.table.now c.args.core (has c.args.flag) c.args.first)

pub overflow_add-value : goal.overflow_add-value
overflow_add-value c =
    let bit = c.loop-bit.bit in
    let below = flag_bits-lt c.args.table.now c.args.core (has c.args.flag) c.args.first bit in
    omega (arith, below, pow_below bit 32 (omega arith), one_shl bit 64 (omega arith), c.loop-bit.invariant)

pub loop-bit-preserved : goal.loop-bit-preserved
loop-bit-preserved c =
    let vm = c.args.table.now in
    let core = c.args.core in
    let flag = has c.args.flag in
    let first = c.args.first in
    let bit = c.loop-bit.bit in
    elim c.if-is_on.branch [
      | then-is_on w ↦
          let on : flag (state_of vm core (first + bit)) ≡ true = cc in
          let more = flag_bits-on vm core flag first bit on in
          omega (arith, more, one_shl bit 64 (omega arith), w.value-is, c.loop-bit.invariant)
      | else-is_on w ↦
          let off : flag (state_of vm core (first + bit)) ≡ false = cc in
          let more = flag_bits-off vm core flag first bit off in
          omega (arith, more, w.value-is, c.loop-bit.invariant)
    ]

pub returns-clause-bound : goal.returns-clause-bound
returns-clause-bound c =
    let all : c.loop-bit.bit ≡ 32 = search rules in
    let below = flag_bits-lt c.args.table.now c.args.core (has c.args.flag) c.args.first c.loop-bit.bit in
    subst (λ n. c.loop-bit.value < 2 ^ n) all (subst (λ v. v < 2 ^ c.loop-bit.bit) (sym c.loop-bit.invariant) below)
