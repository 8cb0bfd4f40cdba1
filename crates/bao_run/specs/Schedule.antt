-- The events that a schedule spells.
use Rattle.std.specs.Prelude.{◌≡◌, ℕ, List, map}
use Rattle.bao_config.specs.Data.{ConfigData}
use Rattle.vm_model.specs.Flat.{FlatEvent}
use Rattle.hypervisor.specs.Event.{flat_event}
use Rattle.hypervisor.specs.declared.event.Event.{Event}
use Rattle.schedule.specs.Schedule.{Events, schedule_of}

-- the bytes of a schedule spell the events, which the flat machine takes
pub record IsSpelled (cfg : ConfigData) (events : List FlatEvent) : Type 0 where
  pub schedule : List ℕ
  pub said : List Event
  pub spelled : schedule_of cfg schedule ≡ Events said
  pub taken : events ≡ map flat_event said
