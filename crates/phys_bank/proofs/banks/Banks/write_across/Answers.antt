use Rattle.std.proofs.Common.{◌+◌, ◌/◌, ◌%◌, ◌++◌, [], ◌∷◌, refl, sym, ap, ◌∙◌, arith}
use Rattle.bao_types.specs.Bytes.{low_bytes}
use Rattle.phys_memory.proofs.Numbers.{low_bytes-more, shifted-more, length-low_bytes}
use Rattle.phys_bank.proofs.Kept.{written-more}
use Rattle.phys_bank.proofs.banks.Banks.write_across.Goals as goal

pub set-requires : goal.set-requires
set-requires c =
    let i = c.loop-k.invariant in let at = c.args.at + c.loop-k.k in ap (λ kept. kept at) i.0.kept ∙ c.requires.kept c.loop-k.k (omega arith)

pub loop-k-preserved : goal.loop-k-preserved
loop-k-preserved c =
    let i = c.loop-k.invariant in let k = c.loop-k.k in let value = c.args.value in let byte = c.loop-k.rest % 256 in (
      written-more c.args.self.now c.loop-k.self c.set.new.self c.args.at k byte (low_bytes k value) (low_bytes (k + 1) value) (length-low_bytes k value)
          (low_bytes-more k (k + 1) value refl ∙ ap (λ n. low_bytes k value ++ n % 256 ∷ []) (sym i.1)) i.0 c.set.ensures,
      ap (λ n. n / 256) i.1 ∙ shifted-more k (k + 1) value refl,
    )
