-- Of a call of the top function, what it was given and what it left.
use Rattle.std.specs.Prelude.{ℕ, List}
use Rattle.outside.specs.Use.{ShelfUse, SinkUse}

pub record Call : Type 0 where
  pub words : List (List ℕ)
  pub shelf : ShelfUse
  pub sink : SinkUse
