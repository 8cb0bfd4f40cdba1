-- What a port keeps, by its kind. The kinds are this project's own.
use Rattle.std.specs.Prelude.{ℕ, ◌+◌, Bool, false, List, [], length, replicate}
use Rattle.ports.specs.declared.port.PortKind.{PortKind}
use Rattle.ports.specs.declared.port.PortKind.TheVariants.{Console as ConsoleKind, Scratch as ScratchKind, Ticker as TickerKind}

-- bit 0 of the control register, the bytes written and the input bytes that wait to be read, both oldest first
pub record ConsoleState : Type 0 where
  pub control : Bool
  pub output : List ℕ
  pub waiting : List ℕ

pub record TickerState : Type 0 where
  pub count : ℕ
  pub period : ℕ

-- a scratch port keeps its 16 words
pub data PortState : Type 0 where
  Console : ConsoleState → PortState
  Scratch : List ℕ → PortState
  Ticker : TickerState → PortState

abbrev pub kind_of : PortState → PortKind
kind_of (Console _) = ConsoleKind
kind_of (Scratch _) = ScratchKind
kind_of (Ticker _) = TickerKind

-- a newly made port: all registers are 0 and all lists are empty
abbrev pub new_port : PortKind → PortState
new_port ConsoleKind = Console (record { control = false; output = []; waiting = [] })
new_port ScratchKind = Scratch (replicate 16 0)
new_port TickerKind = Ticker (record { count = 0; period = 0 })

-- the bytes that were written to a console, oldest first
abbrev pub output_of : PortState → List ℕ
output_of (Console console) = console.output
output_of (Scratch _) = []
output_of (Ticker _) = []

-- how many bytes a console keeps
abbrev pub byte_count : PortState → ℕ
byte_count (Console console) = length console.output + length console.waiting
byte_count (Scratch _) = 0
byte_count (Ticker _) = 0
