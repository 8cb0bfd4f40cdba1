use Rattle.std.proofs.Common.{◌<◌, length}
use Rattle.schedule.specs.Number.{BeginsWithNumber}
use Rattle.schedule.proofs.line.leading_number.Given as goal

abbrev pub invariant-loop-rest : goal.invariant-loop-rest
invariant-loop-rest l = record { some : 0 < l.n; begins : BeginsWithNumber l.text l.n l.rest }

abbrev pub decreases-loop-rest : goal.decreases-loop-rest
decreases-loop-rest l = length l.rest
