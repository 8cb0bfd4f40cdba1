use Rattle.std.proofs.Common.{◌≡◌, false, take}
use Rattle.std.specs.List.{list_any}
use Rattle.pmsa_table.specs.Span.{has}
use Rattle.pmsa_table.proofs.table.Table.find.Given as goal

abbrev pub invariant-loop-span : goal.invariant-loop-span
invariant-loop-span l = list_any (λ span. has span l.at) (take l.span-index l.span-items) ≡ false
