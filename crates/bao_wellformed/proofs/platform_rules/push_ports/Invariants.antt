use Rattle.std.proofs.Common.{◌≡◌, ◌++◌, map, take}
use Rattle.bao_types.specs.Shape.{port_range}
use Rattle.bao_config.specs.declared.config.PortPlace.{PortPlace}
use Rattle.bao_wellformed.proofs.platform_rules.push_ports.Given as goal

abbrev pub invariant-loop-port : goal.invariant-loop-port
invariant-loop-port l = l.ranges.items ≡ l.initial.ranges.items ++ map (λ (port : PortPlace). port_range port.base) (take l.port-index l.ports)
