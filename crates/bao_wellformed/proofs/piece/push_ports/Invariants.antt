use Rattle.std.proofs.Common.{◌≡◌, ◌++◌, map, take}
use Rattle.bao_types.specs.Shape.{port_range}
use Rattle.bao_config.specs.declared.config.PortPlace.{PortPlace}
use Rattle.bao_wellformed.specs.Rules.{plain}
use Rattle.bao_wellformed.proofs.piece.push_ports.Given as goal

abbrev pub invariant-loop-port : goal.invariant-loop-port
invariant-loop-port l = l.all.items ≡ l.initial.all.items ++ map (λ (port : PortPlace). plain (port_range port.base)) (take l.port-index l.ports)
