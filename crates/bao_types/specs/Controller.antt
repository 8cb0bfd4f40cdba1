-- The numbers of a VM's interrupt controller that more than one crate needs (GICv3): its ids and its frames.
use Rattle.std.specs.Prelude.{ℕ}

-- the ids of a virtual core's interrupts lie below this
abbrev pub id_end : ℕ
id_end = 96

-- the bytes of a frame
abbrev pub frame_size : ℕ
frame_size = 0x10000

-- the bytes of a core's redistributor: its two frames
abbrev pub redistributor_size : ℕ
redistributor_size = 0x20000
