use Rattle.std.proofs.Common.{◌≡◌, ◌==◌, drop, find}
use Rattle.bao_config.specs.declared.config.PortPlace.{PortPlace}
use Rattle.bao_wellformed.proofs.map.dev_entry.Given as goal

abbrev pub invariant-loop-port : goal.invariant-loop-port
invariant-loop-port l =
    find (λ (port : PortPlace). port.id == l.dev.port) (drop l.port-index l.port-items)
    ≡ find (λ (port : PortPlace). port.id == l.dev.port) l.config.platform.ports.items
