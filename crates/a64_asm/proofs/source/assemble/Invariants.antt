use Rattle.std.proofs.Common.{length}
use Rattle.a64_asm.proofs.Assembling.{IsReading}
use Rattle.a64_asm.proofs.source.assemble.Given as goal

abbrev pub invariant-loop-line : goal.invariant-loop-line
invariant-loop-line l = IsReading l.text l.progress.image.items l.progress.here l.rest

abbrev pub decreases-loop-line : goal.decreases-loop-line
decreases-loop-line l = length l.rest
