use Rattle.std.proofs.Common.{◌+◌, length, take, slice_index, refl, ap, ◌∙◌, arith, length-set, length-take}
use Rattle.std.proofs.lemmas.List.{take_more}
use Rattle.phys_memory.proofs.Numbers.{put_more}
use Rattle.phys_memory.proofs.phys.Phys.copy_in.Goals as goal

pub loop-k-preserved : goal.loop-k-preserved
loop-k-preserved c =
    let i = c.loop-k.invariant in let k = c.loop-k.k in let bytes = c.args.bytes.now in let byte = slice_index bytes k in (
      ap length c.set.ensures ∙ length-set c.loop-k.self (c.args.at + k) byte ∙ i.0,
      put_more c.args.self.now c.loop-k.self c.set.new.self (take k bytes) (take (k + 1) bytes) c.args.at k (k + 1) byte (omega (arith, length-take k bytes)) refl (omega arith) i.1 c.set.ensures
          (take_more bytes k 0 c.loop-k-test.true),
    )
