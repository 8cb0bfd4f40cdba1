-- What each list of events keeps that a schedule gives.
use Rattle.std.specs.Prelude.{ℕ, ◌≤◌, List, [], ◌∷◌, length, All, ⊤}
use Rattle.bao_types.specs.Shape.{event_limit}
use Rattle.bao_config.specs.Data.{ConfigData}
use Rattle.hypervisor.specs.Event.{IsPlaced}
use Rattle.hypervisor.specs.declared.event.Event.{Event}
use Rattle.hypervisor.specs.declared.event.Event.TheVariants.{Step, Input}

-- the counts of the steps, of all cores together, don't fall, and the first isn't below this one
abbrev pub NeverFall : ℕ → List Event → Type 0
NeverFall last [] = ⊤
NeverFall last (Step core count ∷ events) = (last ≤ count) × NeverFall count events
NeverFall last (Input port byte ∷ events) = NeverFall last events

pub record IsLawful (cfg : ConfigData) (events : List Event) : Type 0 where
  pub placed : All (IsPlaced cfg) events
  pub counts : NeverFall 0 events
  pub few : length events ≤ event_limit
