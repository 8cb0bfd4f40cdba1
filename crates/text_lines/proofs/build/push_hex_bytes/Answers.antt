use Rattle.std.proofs.Common.{arith, append_assoc, refl}
use Rattle.text_lines.proofs.Digits.{hex_bytes_more}
use Rattle.text_lines.proofs.build.push_hex_bytes.Goals as goal

pub loop-byte-preserved : goal.loop-byte-preserved
loop-byte-preserved g c = record {
  text =
      rw (
        c.push_hex.ensures.text,
        c.from.ensures,
        c.loop-byte.invariant.text,
        hex_bytes_more c.args.bytes.now c.loop-byte.byte-index (omega arith),
      )
      (rw append_assoc refl);
  len = omega arith;
}
