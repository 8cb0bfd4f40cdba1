use Rattle.std.proofs.Common.{◌≡◌, ◌++◌, take}
use Rattle.gic_core.specs.Least.{least}
use Rattle.gic_core.specs.Lines.{raised_ppis, raised_spis}
use Rattle.gic_core.proofs.lines.Lines.least_raised.Given as goal

abbrev pub invariant-loop-line : goal.invariant-loop-line
invariant-loop-line l = l.least ≡ least (raised_ppis l.self l.core ++ raised_spis (take l.line-index l.line-items) l.core)
