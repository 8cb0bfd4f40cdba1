use Rattle.std.proofs.Common.{arith}
use Rattle.report.proofs.Memory.{kinds_alike}
use Rattle.report.proofs.section.next_change.Goals as goal

pub returns-clause-alike : goal.returns-clause-alike
returns-clause-alike c =
    λ a low high.
    kinds_alike c.args.map.now c.loop-entry.entry-index c.args.at c.loop-entry.next a (omega arith) c.loop-entry.invariant.beside low high
