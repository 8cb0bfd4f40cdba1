use Rattle.std.proofs.Common.{◌<◌, sym, arith}
use Rattle.vgic_emul.proofs.WordsLemmas.{priority_bytes-none, priority_bytes-more, byte_above-lt, byte_above-whole}
use Rattle.vgic_emul.proofs.words.priority_bytes.Goals as goal

pub loop-byte-init : goal.loop-byte-init
loop-byte-init c = record {
  sum = sym (priority_bytes-none c.args.table.now c.args.core c.args.first);
  bound = omega arith;
}

pub loop-byte-preserved : goal.loop-byte-preserved
loop-byte-preserved c =
    let byte = c.loop-byte.byte in
    let small : c.from.result < 256 = omega arith in
    let whole = byte_above-whole byte c.from.result (omega arith) small in
    record {
      sum = cc (whole, priority_bytes-more c.args.table.now c.args.core c.args.first byte);
      bound = omega (arith, whole, byte_above-lt byte c.from.result c.loop-byte.value small c.loop-byte.invariant.bound);
    }
