-- What a contract sees of a `ConsolePort`.
use Rattle.std.specs.Prelude.{ℕ, Bool, List}
use Rattle.ports.specs.PortState.{Console, PortState}

-- the console's state, and the number of bytes that it has room for
pub record ConsoleData : Type 0 where
  pub control : Bool
  pub output : List ℕ
  pub waiting : List ℕ
  pub room : ℕ

abbrev pub console_state : ConsoleData → PortState
console_state port = Console (record { control = port.control; output = port.output; waiting = port.waiting })
