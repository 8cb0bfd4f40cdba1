use Rattle.std.proofs.Common.{◌≡◌, ◌+◌, inl, inr, sym, ap, ◌∙◌, arith, subst, get_or}
use Rattle.std.specs.Prelude.{is_some}
use Rattle.std.proofs.lemmas.Bool.{cases_eq}
use Rattle.std.proofs.lemmas.Option.{get_or_from_slice_get, slice_get_within}
use Rattle.phys_bank.specs.Filled.{IsFilled}
use Rattle.phys_bank.proofs.Laid.{first-at, total-up_to, total-at_most, laid-before}
use Rattle.phys_bank.proofs.fill.fill.Goals as goal

pub fill_bank-requires-clause-range : goal.fill_bank-requires-clause-range
fill_bank-requires-clause-range c =
    let i = c.loop-place.invariant in let places = c.args.places.now in let at = c.loop-place.place-index in let place = c.place-item.result in let lt = c.loop-place-test.true in
    omega (arith, first-at places at place c.requires.laid lt c.place-item.is, total-up_to places at place lt c.place-item.is, total-at_most places (at + 1), c.requires.total, i.0)

pub fill_bank-requires-clause-empty : goal.fill_bank-requires-clause-empty
fill_bank-requires-clause-empty c = λ entry le.
    let i = c.loop-place.invariant in i.2 entry (omega (arith, le, first-at c.args.places.now c.loop-place.place-index c.place-item.result c.requires.laid c.loop-place-test.true c.place-item.is))

pub loop-place-preserved : goal.loop-place-preserved
loop-place-preserved c =
    let i = c.loop-place.invariant in let places = c.args.places.now in let at = c.loop-place.place-index in let item = c.place-item.result in let lt = c.loop-place-test.true in
    let first = first-at places at item c.requires.laid lt c.place-item.is in let ensures = c.in_ok-fill_bank.ensures in (
      ensures.len ∙ i.0,
      ensures.zero,
      (λ entry le. ensures.behind entry (omega (arith, le, first, total-up_to places at item lt c.place-item.is))),
      (λ j place less there number few. elim (cases_eq j at) [
        | inl same ↦ (
            let is : item ≡ place = c.place-item.is ∙ ap (λ k. get_or places k item) (sym same) ∙ get_or_from_slice_get places j place item there in
            subst (λ p. IsFilled c.args.used.now c.fill_bank.new.directory p) is ensures.filled number few)
        | inr ne ↦ (
            let before = laid-before places j at place c.requires.laid (omega (arith, less, ne)) (omega (arith, lt)) there in
            ap is_some (ensures.before (place.first + number) (omega (arith, before, few, first))) ∙ i.3 j place (omega (arith, less, ne)) there number few)
      ]),
    )

pub returns-clause-filled : goal.returns-clause-filled
returns-clause-filled c = λ j place there.
    let i = c.loop-place.invariant in i.3 j place (omega (arith, slice_get_within c.args.places.now j place there, c.loop-place-test.false)) there
