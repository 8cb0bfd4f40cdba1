use Rattle.std.proofs.Common.{◌+◌, take, sym, ap, ◌∙◌, subst, get_or, arith}
use Rattle.std.proofs.lemmas.List.{take_more}
use Rattle.std.proofs.lemmas.List.Sums.{sum_by_more, sum_by-take-le, sum-map}
use Rattle.bao_types.specs.declared.range.ByteRange.{ByteRange}
use Rattle.phys_bank.specs.Places.{AreLaid, ranges_of}
use Rattle.phys_bank.proofs.Laid.{laid-more, next-total, ranges-more, pages-fit}
use Rattle.phys_bank.proofs.layout.lay_out.Goals as goal

pub loop-bank-preserved : goal.loop-bank-preserved
loop-bank-preserved c =
    let i = c.loop-bank.invariant in let old = c.loop-bank.places.items in let at = c.loop-bank.bank-index in let banks = c.args.banks.now in let put = c.push.ensures.items in (
      c.push.ensures.len ∙ ap (λ n. n + 1) i.0,
      ap ranges_of put ∙ ranges-more old _ (take at banks) i.1 ∙ sym (take_more banks at _ c.loop-bank-test.true),
      subst (λ ps. AreLaid 0 ps) (sym put) (laid-more old 0 _ i.2 (omega (arith, i.3))),
      omega (arith, i.3, c.pages-next.ensures, next-total old c.push.new.self.items _ put),
      (let d : ByteRange = record { base = 0; size = 0 } in omega (arith, i.4, c.pages-next.ensures, pages-fit (get_or banks at d).size, sum_by_more (λ (bank : ByteRange). bank.size) banks at d c.loop-bank-test.true)),
    )

pub invariant_of-place-clause-low : goal.invariant_of-place-clause-low
invariant_of-place-clause-low c =
    let i = c.loop-bank.invariant in let banks = c.args.banks.now in
    omega (arith, i.4, c.requires.total, c.requires.count, c.loop-bank-test.true, sum-map (λ (bank : ByteRange). bank.size) banks, sum_by-take-le (λ (bank : ByteRange). bank.size) banks c.loop-bank.bank-index)
