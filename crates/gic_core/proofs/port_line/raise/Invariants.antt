use Rattle.std.proofs.Common.{◌≡◌, map}
use Rattle.gic_core.specs.PortLine.{raised_by}
use Rattle.gic_core.proofs.MapInPlace.{mapped_from}
use Rattle.gic_core.proofs.port_line.raise.Given as goal

abbrev pub invariant-loop-line : goal.invariant-loop-line
invariant-loop-line l = mapped_from (raised_by l.port) l.line-index l.ports ≡ map (raised_by l.port) l.initial.ports
