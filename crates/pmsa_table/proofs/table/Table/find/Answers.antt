use Rattle.std.proofs.Common.{◌≡◌, true, false, take, arith, sym, ◌∙◌, ap}
use Rattle.std.specs.List.{list_any}
use Rattle.std.proofs.lemmas.List.{take_all}
use Rattle.pmsa_table.specs.Span.{has}
use Rattle.pmsa_table.proofs.table.Table.find.Goals as goal

pub unreachable-requires : goal.unreachable-requires
unreachable-requires c =
    let whole : list_any (λ span. has span c.args.at) c.as_slice-span-items.result.now ≡ true
    = ap (λ spans. list_any (λ span. has span c.args.at) spans) c.as_slice-span-items.ensures.value
    ∙ c.self.invariant.0.whole c.args.at (omega arith) in
    let all : take c.loop-span.span-index c.as_slice-span-items.result.now ≡ c.as_slice-span-items.result.now
    = take_all c.loop-span.span-index c.as_slice-span-items.result.now (omega arith) in
    let none : list_any (λ span. has span c.args.at) c.as_slice-span-items.result.now ≡ false
    = ap (λ spans. list_any (λ span. has span c.args.at) spans) (sym all) ∙ c.loop-span.invariant in
    cc
