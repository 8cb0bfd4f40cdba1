-- The frames through which a VM's guests reach its interrupt controller (GICv3, "Memory-mapped interface"): one for the
-- distributor, and two for each virtual core, the redistributor's own and after it that of its private ids.
use Rattle.std.specs.Prelude.{ℕ, ◌+◌, ◌-◌, ◌<◌, ◌*◌, ◌/◌, ◌%◌, nat_le, nat_lt, ◌&&◌, if◌then◌else◌, Option, Some, None}
use Rattle.bao_types.specs.Controller.{frame_size, redistributor_size}
use Rattle.vgic_emul.specs.declared.place.FramePlace.{FramePlace}
use Rattle.vgic_emul.specs.declared.place.FramePlace.TheVariants.{Dist, Redist, Sgi}

-- in one of the two frames of a core
abbrev pub in_core : ℕ → ℕ → FramePlace
in_core core offset = if nat_lt offset frame_size then Redist core offset else Sgi core (offset - frame_size)

-- the frame in which an address lies, for a VM with this many virtual cores, whose distributor and redistributors begin
-- at these addresses; that the distributor comes first where both overlap is our own choice
abbrev pub frame_at : ℕ → ℕ → ℕ → ℕ → Option FramePlace
frame_at gicd gicr cores at =
    if nat_le gicd at && nat_lt at (gicd + frame_size) then Some (Dist (at - gicd))
    else if nat_le gicr at && nat_lt at (gicr + redistributor_size * cores) then Some (in_core ((at - gicr) / redistributor_size) ((at - gicr) % redistributor_size))
    else None

-- the frame is one of a VM with this many virtual cores, and the byte lies in it
abbrev pub IsPlace : ℕ → FramePlace → Type 0
IsPlace cores (Dist offset) = offset < frame_size
IsPlace cores (Redist core offset) = (core < cores) × (offset < frame_size)
IsPlace cores (Sgi core offset) = (core < cores) × (offset < frame_size)
