use Rattle.std.proofs.Common.{◌+◌, ◌/◌, ◌%◌, [], ◌∷◌, ◌++◌, length, refl, sym, ap, ◌∙◌, arith, length-set}
use Rattle.bao_types.specs.Bytes.{low_bytes}
use Rattle.phys_memory.proofs.Numbers.{low_bytes-more, shifted-more, length-low_bytes, put_more}
use Rattle.phys_memory.proofs.phys.Phys.put_number.Goals as goal

pub loop-k-preserved : goal.loop-k-preserved
loop-k-preserved c =
    let i = c.loop-k.invariant in let k = c.loop-k.k in let value = c.args.value in (
      ap length c.set.ensures ∙ length-set c.loop-k.self (c.args.at + k) (c.loop-k.rest % 256) ∙ i.0,
      ap (λ n. n / 256) i.1 ∙ shifted-more k (k + 1) value refl,
      put_more c.args.self.now c.loop-k.self c.set.new.self (low_bytes k value) (low_bytes (k + 1) value) c.args.at k (k + 1) (c.loop-k.rest % 256) (length-low_bytes k value) refl (omega arith) i.2 c.set.ensures
          (low_bytes-more k (k + 1) value refl ∙ ap (λ n. low_bytes k value ++ n % 256 ∷ []) (sym i.1)),
    )
