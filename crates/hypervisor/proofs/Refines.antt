-- A core whose entries realise the map steps on the board as in the model.
use Rattle.std.proofs.Common.{◌≡◌, ℕ, ◌-◌, Bool, true, false, List, [], ◌∷◌, map, find, option_map, refl, sym, ap, ◌∙◌}
use Rattle.std.specs.Prelude.{if◌then◌else◌, Some}
use Rattle.bao_types.specs.ByteRange.{is_within}
use Rattle.bao_types.specs.declared.shape.PortSpot.{PortSpot}
use Rattle.bao_types.specs.Shape.{ShapeData, port_range}
use Rattle.bao_types.specs.ListReg.{lists_at}
use Rattle.bao_config.specs.Data.{ConfigData}
use Rattle.bao_config.specs.declared.config.PortPlace.{PortPlace}
use Rattle.bao_wellformed.specs.Map.{class_of, by_map}
use Rattle.board.specs.Stage.{by_regions}
use Rattle.board.specs.Ports.{PortByte, places_of}
use Rattle.board.specs.Judge.{reach_of}
use Rattle.board.specs.Attempt.{step_effect}
use Rattle.board.specs.Machine.{Machine, core_at, entries_at, port_places, machine_effect, machine_reach, moment_at}
use Rattle.vgic_iface.specs.Interface.{best_listed, signalled}
use Rattle.hypervisor.specs.Shape.{port_spot, shape_of}
use Rattle.hypercalls.specs.declared.power.Power.{Power}
use Rattle.vm_model.specs.Flat.{flat_reach, flat_effect, flat_moment}
use Rattle.vm_model.specs.Interrupts.{best_of}
use Rattle.vm_model.specs.Guests.{Tables}
use Rattle.vm_model.specs.Project.{joined_tables, project}
use Rattle.mpu_packer.specs.Packing.{Realises}
use Rattle.hypervisor.specs.Steps.{StepsAlike}
use Rattle.hypervisor.proofs.Realises.{verdicts_alike}

-- the ports of the board of a configuration stand where those of its platform do
places_alike : (cfg : ConfigData) (ports : List PortPlace) (at : ℕ)
    → port_places (map (port_spot cfg) ports) at ≡ places_of (λ port. port.id) (λ port. port.base) ports at
places_alike cfg [] at = refl
places_alike cfg (port ∷ ports) at = by_test (is_within (port_range port.base) at) (places_alike cfg ports at)
  where
    by_test : (here : Bool) → port_places (map (port_spot cfg) ports) at ≡ places_of (λ port. port.id) (λ port. port.base) ports at
        → option_map {U = PortByte} (λ (spot : PortSpot). record { port = spot.id; offset = at - spot.base })
        (if here then Some (port_spot cfg port) else find (λ spot. is_within (port_range spot.base) at) (map (port_spot cfg) ports))
        ≡ option_map {U = PortByte} (λ (place : PortPlace). record { port = place.id; offset = at - place.base })
        (if here then Some port else find (λ place. is_within (port_range place.base) at) ports)
    by_test true rest = refl
    by_test false rest = rest

-- a core whose entries realise the map, and whose best interrupt is listed
module _ (cfg : ConfigData) (m : Machine) (powers : List Power) (tables : Tables) (core count : ℕ)
    (realised : Realises (entries_at m.entries core) (class_of cfg core)) (shaped : m.shape ≡ shape_of cfg m.shape.events)
    (listed : best_of cfg (joined_tables cfg m.lists tables) core ≡ best_listed (lists_at m.lists core)) where
  -- what it reaches is what it reaches by the map
  reach_alike : machine_reach m core ≡ flat_reach cfg (project cfg powers tables m) core
  reach_alike =
      let one = by_regions (core_at m.cores core) in
      ap (λ two. reach_of one two (port_places m.shape.ports) m.ports m.bytes) (verdicts_alike (entries_at m.entries core) cfg core realised)
      ∙ ap (λ (shape : ShapeData). reach_of one (by_map cfg core) (port_places shape.ports) m.ports m.bytes) shaped
      ∙ ap (λ places. reach_of one (by_map cfg core) places m.ports m.bytes) (λ i at. places_alike cfg cfg.platform.ports at i)

  -- its list registers signal what its VM's interrupts do
  moment_alike : moment_at m core count ≡ flat_moment cfg (project cfg powers tables m) core count
  moment_alike = ap (λ rank. record { count = count; signal = signalled (core_at m.cores core).iface rank }) (sym listed)

  -- so its next step does for the board what it does for the flat machine
  pub effect_alike : machine_effect m core count ≡ flat_effect cfg (project cfg powers tables m) core count
  effect_alike =
      ap (λ reach. step_effect reach (core_at m.cores core) (moment_at m core count)) reach_alike
      ∙ ap (step_effect (flat_reach cfg (project cfg powers tables m) core) (core_at m.cores core)) moment_alike

-- a step of the board is a step of the model
pub steps_alike : StepsAlike
steps_alike cfg m powers tables core count realised shaped listed = effect_alike cfg m powers tables core count realised shaped listed
