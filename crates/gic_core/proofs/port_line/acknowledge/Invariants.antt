use Rattle.std.proofs.Common.{◌≡◌, map}
use Rattle.gic_core.specs.PortLine.{acknowledged_by}
use Rattle.gic_core.proofs.MapInPlace.{mapped_from}
use Rattle.gic_core.proofs.port_line.acknowledge.Given as goal

abbrev pub invariant-loop-line : goal.invariant-loop-line
invariant-loop-line l =
    mapped_from (acknowledged_by l.core l.intid) l.line-index l.ports ≡ map (acknowledged_by l.core l.intid) l.initial.ports
