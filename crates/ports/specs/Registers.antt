-- What reads, writes and input bytes do to a port. The registers are this project's own.
--
--   console  0x0           a write puts out its low byte; a read takes the oldest byte that waits, 0 where none does
--            0x4           reads 1 where a byte waits, else 0; writes are ignored
--            0x8           bit 0 is kept: where it is set, an input byte raises the line
--   scratch  0x0 to 0x3c   each 4 bytes are a word of 32 bits; a write of the last one that isn't 0 raises the line
--   ticker   0x0           COUNT, the number of input bytes modulo 2^32; writes are ignored
--            0x4           PERIOD, 32 bits: an input byte raises the line where PERIOD isn't 0 and divides the new COUNT
--
-- A register answers accesses of 1, 2 and 4 bytes at exactly its offset. A write takes the low bits of its value, with
-- zeros above; a read gives the low bits of the register. Any other access reads 0 and changes nothing.
use Rattle.std.specs.Prelude.{ℕ, ◌+◌, ◌*◌, ◌/◌, ◌%◌, ◌^◌, ◌==◌, nat_lt, Bool, false, ◌&&◌, ◌||◌, not, if◌then◌else◌, [], ◌∷◌, ◌++◌, drop, length, slice_index, slice_set}
use Rattle.bao_types.specs.Shape.{port_size}
use Rattle.ports.specs.PortState.{PortState, Console, Scratch, Ticker}

-- a register answers accesses of this width
abbrev pub is_register_width : ℕ → Bool
is_register_width width = width == 1 || width == 2 || width == 4

-- the low bits of a value, as many as an access of this width has
abbrev pub low_bits : ℕ → ℕ → ℕ
low_bits width value = value % 2 ^ (8 * width)

-- the access is one of the register at `register`
abbrev pub is_access : ℕ → ℕ → ℕ → Bool
is_access register offset width = offset == register && is_register_width width

-- the access is one of a word of a scratch port
abbrev pub is_word_access : ℕ → ℕ → Bool
is_word_access offset width = offset % 4 == 0 && nat_lt offset port_size && is_register_width width

-- the value of the register that a read of `width` bytes at `offset` reaches, 0 where it reaches none
abbrev pub register_read : PortState → ℕ → ℕ → ℕ
register_read (Console console) offset width =
    if is_access 0x0 offset width then slice_index console.waiting 0
    else if is_access 0x4 offset width then (if nat_lt 0 (length console.waiting) then 1 else 0)
    else if is_access 0x8 offset width then (if console.control then 1 else 0)
    else 0
register_read (Scratch words) offset width = if is_word_access offset width then slice_index words (offset / 4) else 0
register_read (Ticker ticker) offset width =
    if is_access 0x0 offset width then ticker.count else if is_access 0x4 offset width then ticker.period else 0

-- the value that a read gives
abbrev pub value_read : PortState → ℕ → ℕ → ℕ
value_read port offset width = low_bits width (register_read port offset width)

abbrev pub after_read : PortState → ℕ → ℕ → PortState
after_read (Console console) offset width =
    Console (record console { waiting = if is_access 0x0 offset width then drop 1 console.waiting else console.waiting })
after_read (Scratch words) offset width = Scratch words
after_read (Ticker ticker) offset width = Ticker ticker

abbrev pub after_write : PortState → ℕ → ℕ → ℕ → PortState
after_write (Console console) offset width value =
    Console
    (record console {
      output = if is_access 0x0 offset width then console.output ++ value % 256 ∷ [] else console.output;
      control = if is_access 0x8 offset width then value % 2 == 1 else console.control;
    })
after_write (Scratch words) offset width value =
    Scratch (if is_word_access offset width then slice_set words (offset / 4) (low_bits width value) else words)
after_write (Ticker ticker) offset width value =
    Ticker (record ticker { period = if is_access 0x4 offset width then low_bits width value else ticker.period })

-- whether a write raises the line
abbrev pub line_of_write : PortState → ℕ → ℕ → ℕ → Bool
line_of_write (Console _) offset width value = false
line_of_write (Scratch _) offset width value = is_access 0x3c offset width && not (low_bits width value == 0)
line_of_write (Ticker _) offset width value = false

-- COUNT after one more input byte
abbrev pub next_count : ℕ → ℕ
next_count count = (count + 1) % 2 ^ 32

abbrev pub after_input : PortState → ℕ → PortState
after_input (Console console) byte = Console (record console { waiting = console.waiting ++ byte ∷ [] })
after_input (Scratch words) byte = Scratch words
after_input (Ticker ticker) byte = Ticker (record ticker { count = next_count ticker.count })

-- whether an input byte raises the line
abbrev pub line_of_input : PortState → Bool
line_of_input (Console console) = console.control
line_of_input (Scratch _) = false
line_of_input (Ticker ticker) = not (ticker.period == 0) && next_count ticker.count % ticker.period == 0
