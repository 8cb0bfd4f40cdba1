-- The events of a schedule: of what they may be, and what they are to the model.
use Rattle.std.specs.Prelude.{◌≡◌, ◌==◌, ◌<◌, ℕ, nat_lt, Bool, true, IsTrue, length}
use Rattle.std.specs.List.{list_any}
use Rattle.bao_types.specs.Shape.{ShapeData}
use Rattle.bao_config.specs.Data.{ConfigData}
use Rattle.bao_wellformed.specs.Map.{has_port}
use Rattle.vm_model.specs.Flat.{FlatEvent, Step, Input}
use Rattle.hypervisor.specs.declared.event.Event.{Event}
use Rattle.hypervisor.specs.declared.event.Event.TheVariants as event

-- the platform has this core
abbrev pub is_core : ConfigData → ℕ → Bool
is_core cfg core = nat_lt core (length cfg.platform.cores)

-- a VM is given this port
abbrev pub is_assigned : ConfigData → ℕ → Bool
is_assigned cfg port = list_any (has_port port) cfg.vms

-- the event is of a core of the platform, or of a port that a VM is given
abbrev pub IsPlaced : ConfigData → Event → Type 0
IsPlaced cfg (event.Step core count) = is_core cfg core ≡ true
IsPlaced cfg (event.Input port byte) = is_assigned cfg port ≡ true

-- the event of a board of this shape: of one of its cores, or of a port that it has
abbrev pub IsOnBoard : ShapeData → Event → Type 0
IsOnBoard shape (event.Step core count) = core < length shape.cores
IsOnBoard shape (event.Input port byte) = IsTrue (list_any (λ spot. spot.id == port) shape.ports)

-- the event of the flat machine
abbrev pub flat_event : Event → FlatEvent
flat_event (event.Step core count) = Step core count
flat_event (event.Input port byte) = Input port byte
