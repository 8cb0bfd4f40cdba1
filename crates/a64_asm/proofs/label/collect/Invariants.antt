use Rattle.std.proofs.Common.{length}
use Rattle.a64_asm.proofs.Labelled.{IsCollecting}
use Rattle.a64_asm.proofs.label.collect.Given as goal

abbrev pub invariant-loop-line : goal.invariant-loop-line
invariant-loop-line l = IsCollecting l.text l.labels l.here l.rest

abbrev pub decreases-loop-line : goal.decreases-loop-line
decreases-loop-line l = length l.rest
