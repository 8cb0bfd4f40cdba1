-- What reads of the registers give, and what writes keep.
use Rattle.std.specs.Prelude.{◌==◌, ℕ, zero, suc, ◌+◌, ◌-◌, ◌*◌, ◌/◌, ◌%◌, ◌^◌, Bool, if◌then◌else◌}
use Rattle.std.specs.Int.{bit_at}
use Rattle.vgic_table.specs.declared.id_state.IdState.{IdState}
use Rattle.vgic_table.specs.Interrupts.{Interrupts, state_of}
use Rattle.vgic_table.specs.Changes.{masked, with_state}

pub record Effect : Type 0 where
  -- of the interrupts, the frame's core, and an access's offset and width: what is read
  pub reads : Interrupts → ℕ → ℕ → ℕ → ℕ
  -- of these and a value: the interrupts once it is written
  pub keeps : Interrupts → ℕ → ℕ → ℕ → ℕ → Interrupts

-- an id of a core is changed; of its priority the bits 7 to 3 are kept
abbrev pub changed : Interrupts → ℕ → ℕ → (IdState → IdState) → Interrupts
changed vm core id change = with_state vm core id (masked (change (state_of vm core id)))

-- the number whose bits, this many, tell which of the ids from `first` on have the flag
unfoldable pub flag_bits : Interrupts → ℕ → (IdState → Bool) → ℕ → ℕ → ℕ
flag_bits vm core flag first zero = 0
flag_bits vm core flag first (suc count) =
    flag_bits vm core flag first count + (if flag (state_of vm core (first + count)) then 2 ^ count else 0)

-- those of the ids from `first` on, this many, are changed of which the value has the bit
unfoldable pub changed_by_bits : (ℕ → Interrupts → Interrupts) → Interrupts → ℕ → ℕ → ℕ → Interrupts
changed_by_bits change vm value first zero = vm
changed_by_bits change vm value first (suc count) =
    let before = changed_by_bits change vm value first count in
    if bit_at value count == 1 then change (first + count) before else before

-- the number whose bytes, this many, are the priorities of the ids from `first` on
unfoldable pub priority_bytes : Interrupts → ℕ → ℕ → ℕ → ℕ
priority_bytes vm core first zero = 0
priority_bytes vm core first (suc count) =
    priority_bytes vm core first count + (state_of vm core (first + count)).priority * 2 ^ (8 * count)

-- the ids from `first` on, this many, have the value's bytes as priorities
unfoldable pub with_priorities : Interrupts → ℕ → ℕ → ℕ → ℕ → Interrupts
with_priorities vm core value first zero = vm
with_priorities vm core value first (suc count) =
    changed (with_priorities vm core value first count) core (first + count)
    (λ state. record state { priority = value / 2 ^ (8 * count) % 256 })

-- this many bytes of a number, from one on
abbrev pub part : ℕ → ℕ → ℕ → ℕ
part number first width = number / 2 ^ (8 * first) % 2 ^ (8 * width)

-- the core's affinity, its number, and whether it is the VM's last
abbrev pub type_of : Interrupts → ℕ → ℕ
type_of vm core = core * 2 ^ 32 + core * 2 ^ 8 + (if core + 1 == vm.cores then 16 else 0)

-- the id of bit 0: word n of a register of flags, of which each has 0x80 bytes, is of the ids from 32 n on
abbrev pub first_flagged : ℕ → ℕ
first_flagged offset = 32 * (offset % 0x80 / 4)

-- the id whose priority the byte is
abbrev pub prioritised : ℕ → ℕ
prioritised offset = offset - 0x400

abbrev pub enabled : IdState → Bool
enabled state = state.enabled

abbrev pub with_enabled : Bool → IdState → IdState
with_enabled on state = record state { enabled = on }

abbrev pub pending : IdState → Bool
pending state = state.pending

abbrev pub with_pending : Bool → IdState → IdState
with_pending on state = record state { pending = on }

-- GICD_CTLR: DS and ARE read as 1, and bit 1 is whether the distributor is on
abbrev pub control : Effect
control = record {
  reads = λ vm core offset width. 0x50 + (if vm.on then 2 else 0);
  keeps = λ vm core offset width value. record vm { on = bit_at value 1 == 1 };
}

-- GICD_TYPER
abbrev pub distributor_type : Effect
distributor_type = record {
  reads = λ vm core offset width. 0x00480002;
  keeps = λ vm core offset width value. vm;
}

-- GICR_TYPER
abbrev pub core_type : Effect
core_type = record {
  reads = λ vm core offset width. part (type_of vm core) (offset - 8) width;
  keeps = λ vm core offset width value. vm;
}

-- a bit an id: it tells a flag, and a 1 that is written changes the id
abbrev pub flags : (IdState → Bool) → (IdState → IdState) → Effect
flags flag change = record {
  reads = λ vm core offset width. flag_bits vm core flag (first_flagged offset) 32;
  keeps = λ vm core offset width value. changed_by_bits (λ id vm. changed vm core id change) vm value (first_flagged offset) 32;
}

-- a byte an id, its priority
abbrev pub priorities : Effect
priorities = record {
  reads = λ vm core offset width. priority_bytes vm core (prioritised offset) width;
  keeps = λ vm core offset width value. with_priorities vm core value (prioritised offset) width;
}
