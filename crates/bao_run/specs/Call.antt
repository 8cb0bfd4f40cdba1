-- What a run is made of; and of a call of the top function, what it was given and what it left.
use Rattle.std.specs.Prelude.{ℕ, List}
use Rattle.outside.specs.Use.{ShelfUse, SinkUse}
use Rattle.bao_config.specs.Data.{ConfigData}
use Rattle.board.specs.Machine.{Machine}
use Rattle.vm_model.specs.Flat.{FlatEvent}

-- a configuration, an image for each of its VMs, and the events of a schedule
pub record InputData : Type 0 where
  pub cfg : ConfigData
  pub images : List (List ℕ)
  pub events : List FlatEvent

-- the board, before and after
pub record BoardUse : Type 0 where
  pub before : Machine
  pub after : Machine

pub record Call : Type 0 where
  pub words : List (List ℕ)
  pub shelf : ShelfUse
  pub sink : SinkUse
  pub board : BoardUse
