-- Device ports as a core reaches them: which byte is which port's, what is done to them, and the elements of an access, of
-- which each is carried out in one port or in memory.
use Rattle.std.specs.Prelude.{ℕ, zero, suc, ◌+◌, ◌-◌, ◌*◌, ◌/◌, ◌%◌, ◌^◌, ◌==◌, nat_lt, Bool, false, ◌&&◌, ◌||◌, if◌then◌else◌, List, [], ◌∷◌, ◌++◌, is_some, Option, None, Some}
use Rattle.std.specs.List.{find}
use Rattle.std.specs.Option.{option_map}
use Rattle.bao_types.specs.Bytes.{bytes_from, little_endian, next_address}
use Rattle.bao_types.specs.ByteRange.{is_within}
use Rattle.bao_types.specs.Shape.{port_range}
use Rattle.ports.specs.PortState.{PortState, new_port, output_of}
use Rattle.ports.specs.Registers.{after_read, after_write, line_of_write, value_read}
use Rattle.ports.specs.declared.port.PortKind.{PortKind}
use Rattle.ports.specs.declared.port.PortKind.TheVariants.{Console, Scratch, Ticker}

-- a byte of a port: the port's number, and the place of the byte in it
pub record PortByte : Type 0 where
  pub port : ℕ
  pub offset : ℕ

-- for each address, the byte of a port that stands there, if one does
abbrev pub Places : Type 0
Places = ℕ → Option PortByte

-- of ports with these numbers and bases; the first that has the byte counts
abbrev pub places_of : {A : Type 0} → (A → ℕ) → (A → ℕ) → List A → Places
places_of number base ports at =
    option_map (λ port. record { port = number port; offset = at - base port })
    (find (λ port. is_within (port_range (base port)) at) ports)

-- the byte is a port's
abbrev pub is_port : Places → ℕ → Bool
is_port places at = is_some (places at)

-- what each port keeps, by its number
abbrev pub PortStates : Type 0
PortStates = ℕ → PortState

-- the number of ports
abbrev pub port_count : ℕ
port_count = 16

-- the ports below this number are consoles
abbrev pub console_count : ℕ
console_count = 8

-- the ports from there on, below this number, are scratch ports, and the others tickers
abbrev pub ticker_base : ℕ
ticker_base = 12

-- The standard list: ports 0 to 7 are consoles, 8 to 11 scratch ports and 12 to 15 tickers. There are no others; where one is
-- asked for, it is as a console that nothing reaches.
abbrev pub standard_kind : ℕ → PortKind
standard_kind port =
    if nat_lt port console_count then Console else if nat_lt port ticker_base then Scratch else if nat_lt port port_count then Ticker else Console

-- newly made
abbrev pub standard_ports : PortStates
standard_ports port = new_port (standard_kind port)

-- what each port has put out
abbrev pub outputs : PortStates → ℕ → List ℕ
outputs states port = output_of (states port)

-- all ports, once one of them keeps this
abbrev pub with_port : ℕ → PortState → PortStates → PortStates
with_port port state states other = if other == port then state else states other

-- what is done to a port: this many bytes at an offset of it are read, or written with a value
pub data PortAccess : Type 0 where
  ReadPort : (port offset width : ℕ) → PortAccess
  WritePort : (port offset width value : ℕ) → PortAccess

-- the ports after that
abbrev pub accessed : PortAccess → PortStates → PortStates
accessed (ReadPort port offset width) states = with_port port (after_read (states port) offset width) states
accessed (WritePort port offset width value) states = with_port port (after_write (states port) offset width value) states

-- and after all of these, in order
abbrev pub all_accessed : List PortAccess → PortStates → PortStates
all_accessed [] states = states
all_accessed (access ∷ accesses) states = all_accessed accesses (accessed access states)

abbrev pub port_of : PortAccess → ℕ
port_of (ReadPort port offset width) = port
port_of (WritePort port offset width value) = port

-- an access raises the line of its port
abbrev pub raises : PortAccess → PortStates → Bool
raises (ReadPort port offset width) states = false
raises (WritePort port offset width value) states = line_of_write (states port) offset width value

-- one of these accesses, in order, raises the line of a port
abbrev pub raises_line : List PortAccess → PortStates → ℕ → Bool
raises_line [] states port = false
raises_line (access ∷ accesses) states port =
    raises access states && port_of access == port || raises_line accesses (accessed access states) port

-- the number that this many bytes of memory from an address on are
abbrev pub number_at : (ℕ → ℕ) → ℕ → ℕ → ℕ
number_at bytes at n = little_endian (bytes_from bytes at n)

-- the lowest bytes of a value, this many, each with its address, from an address on
abbrev pub stores_from : ℕ → ℕ → ℕ → List (ℕ × ℕ)
stores_from at zero value = []
stores_from at (suc n) value = (at, value % 256) ∷ stores_from (next_address at) n (value / 256)

-- the address that stands this many bytes after another
abbrev pub address_from : ℕ → ℕ → ℕ
address_from at zero = at
address_from at (suc k) = address_from (next_address at) k

-- One element, which begins in a port or in memory: what it reads, what reading it does to the port, and, if it is written
-- with a value, what that does to the port and which bytes of memory it stores.
abbrev pub element_value : PortStates → (ℕ → ℕ) → Option PortByte → ℕ → ℕ → ℕ
element_value states bytes None at width = number_at bytes at width
element_value states bytes (Some byte) at width = value_read (states byte.port) byte.offset width

abbrev pub element_read : Option PortByte → ℕ → List PortAccess
element_read None width = []
element_read (Some byte) width = ReadPort byte.port byte.offset width ∷ []

abbrev pub element_written : Option PortByte → ℕ → ℕ → List PortAccess
element_written None width value = []
element_written (Some byte) width value = WritePort byte.port byte.offset width (value % 256 ^ width) ∷ []

abbrev pub element_stored : Option PortByte → ℕ → ℕ → ℕ → List (ℕ × ℕ)
element_stored None at width value = stores_from at width value
element_stored (Some byte) at width value = []

-- what elements are read from: where the ports stand and what they keep, and the bytes of memory
pub record Source : Type 0 where
  pub places : Places
  pub states : PortStates
  pub bytes : ℕ → ℕ

-- once its ports were accessed so
abbrev pub source_after : List PortAccess → Source → Source
source_after accesses source = record source { states = all_accessed accesses source.states }

-- Elements of one width, this many, one after the other: the number that they read, the first of them lowest, each from the
-- ports as those before it left them; what reading them does to the ports; and of writing them with the parts of a value.
abbrev pub elements_value : Source → ℕ → ℕ → ℕ → ℕ
elements_value source at width zero = 0
elements_value source at width (suc n) =
    element_value source.states source.bytes (source.places at) at width
    + 256 ^ width * elements_value (source_after (element_read (source.places at) width) source) (address_from at width) width n

abbrev pub elements_read : Places → ℕ → ℕ → ℕ → List PortAccess
elements_read places at width zero = []
elements_read places at width (suc n) = element_read (places at) width ++ elements_read places (address_from at width) width n

abbrev pub elements_written : Places → ℕ → ℕ → ℕ → ℕ → List PortAccess
elements_written places at width zero value = []
elements_written places at width (suc n) value =
    element_written (places at) width value ++ elements_written places (address_from at width) width n (value / 256 ^ width)

abbrev pub elements_stored : Places → ℕ → ℕ → ℕ → ℕ → List (ℕ × ℕ)
elements_stored places at width zero value = []
elements_stored places at width (suc n) value =
    element_stored (places at) at width value ++ elements_stored places (address_from at width) width n (value / 256 ^ width)
