use Rattle.std.proofs.Common.{◌≡◌, map, take}
use Rattle.bao_wellformed.specs.Checked.{checked_data}
use Rattle.hypervisor.specs.Shape.{port_spot}
use Rattle.vm_create.proofs.shape.port_spots.Given as goal

abbrev pub invariant-loop-port : goal.invariant-loop-port
invariant-loop-port l = l.spots.items ≡ map (port_spot (checked_data l.checked)) (take l.port-index l.port-items)
