-- What a contract sees of an `IfaceRegs`.
use Rattle.std.specs.Prelude.{ℕ, Bool}

pub record IfaceData : Type 0 where
  pub pmr : ℕ
  pub group : Bool
  pub active : ℕ
