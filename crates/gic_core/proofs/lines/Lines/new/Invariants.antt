use Rattle.std.proofs.Common.{◌≡◌, map, take}
use Rattle.gic_core.specs.PortLine.{quiet_line}
use Rattle.gic_core.proofs.lines.Lines.new.Given as goal

abbrev pub invariant-loop-spot : goal.invariant-loop-spot
invariant-loop-spot l = l.ports.items ≡ map quiet_line (take l.spot-index l.spot-items)
