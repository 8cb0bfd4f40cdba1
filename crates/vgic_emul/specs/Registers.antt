-- The registers of the frames (GICv3, GICD_, GICR_): a row a register, with the bytes of its frame that it has, the widths
-- of access that it answers, what a read gives and what a write keeps. Elsewhere, and at any other width, there is none.
use Rattle.std.specs.Prelude.{◌==◌, ℕ, nat_le, Bool, true, false, ◌&&◌, ◌||◌, List, [], ◌∷◌, Option, Some, None, find}
use Rattle.std.specs.Option.{option_map}
use Rattle.vgic_table.specs.Interrupts.{Interrupts}
use Rattle.vgic_emul.specs.declared.place.FramePlace.{FramePlace}
use Rattle.vgic_emul.specs.declared.place.FramePlace.TheVariants.{Dist, Redist, Sgi}
use Rattle.vgic_emul.specs.Effects.{Effect, control, core_type, distributor_type, enabled, flags, pending, priorities, with_enabled, with_pending}

pub record Row : Type 0 where
  -- the offsets of the first and the last byte
  pub first : ℕ
  pub last : ℕ
  -- the widths in bytes
  pub widths : ℕ → Bool
  pub effect : Effect

abbrev pub row : ℕ → ℕ → (ℕ → Bool) → Effect → Row
row first last widths effect = record { first = first; last = last; widths = widths; effect = effect }

abbrev pub word : ℕ → Bool
word width = width == 4

abbrev pub byte_or_word : ℕ → Bool
byte_or_word width = width == 1 || width == 4

abbrev pub word_or_pair : ℕ → Bool
word_or_pair width = width == 4 || width == 8

-- of the ids 32 to 95: CTLR, TYPER, ISENABLER, ICENABLER, ISPENDR, ICPENDR, IPRIORITYR
abbrev pub distributor_rows : List Row
distributor_rows =
    row 0x0 0x3 word control
    ∷ row 0x4 0x7 word distributor_type
    ∷ row 0x104 0x10b word (flags enabled (with_enabled true))
    ∷ row 0x184 0x18b word (flags enabled (with_enabled false))
    ∷ row 0x204 0x20b word (flags pending (with_pending true))
    ∷ row 0x284 0x28b word (flags pending (with_pending false))
    ∷ row 0x420 0x45f byte_or_word priorities
    ∷ []

-- TYPER of a core
abbrev pub redistributor_rows : List Row
redistributor_rows = row 0x8 0xf word_or_pair core_type ∷ []

-- of the ids 0 to 31 of a core: ISENABLER, ICENABLER, ISPENDR, ICPENDR, IPRIORITYR
abbrev pub private_rows : List Row
private_rows =
    row 0x100 0x103 word (flags enabled (with_enabled true))
    ∷ row 0x180 0x183 word (flags enabled (with_enabled false))
    ∷ row 0x200 0x203 word (flags pending (with_pending true))
    ∷ row 0x280 0x283 word (flags pending (with_pending false))
    ∷ row 0x400 0x41f byte_or_word priorities
    ∷ []

abbrev pub rows_of : FramePlace → List Row
rows_of (Dist offset) = distributor_rows
rows_of (Redist core offset) = redistributor_rows
rows_of (Sgi core offset) = private_rows

abbrev pub offset_of : FramePlace → ℕ
offset_of (Dist offset) = offset
offset_of (Redist core offset) = offset
offset_of (Sgi core offset) = offset

-- the virtual core whose private ids the frame has; the distributor has none
abbrev pub core_of : FramePlace → ℕ
core_of (Dist offset) = 0
core_of (Redist core offset) = core
core_of (Sgi core offset) = core

-- an access of this width at this offset reaches the row's register
abbrev pub reaches : ℕ → ℕ → Row → Bool
reaches offset width row = nat_le row.first offset && nat_le offset row.last && row.widths width

-- what the register does that an access reaches
abbrev pub effect_in : List Row → ℕ → ℕ → Option Effect
effect_in rows offset width = option_map (λ row. row.effect) (find (reaches offset width) rows)

abbrev pub effect_at : FramePlace → ℕ → Option Effect
effect_at place width = effect_in (rows_of place) (offset_of place) width

-- what is read; 0 where there is no register
abbrev pub value_of : Interrupts → FramePlace → ℕ → Option Effect → ℕ
value_of vm place width None = 0
value_of vm place width (Some effect) = effect.reads vm (core_of place) (offset_of place) width

-- the interrupts after a write; where there is no register all stays
abbrev pub kept_of : Interrupts → FramePlace → ℕ → ℕ → Option Effect → Interrupts
kept_of vm place width value None = vm
kept_of vm place width value (Some effect) = effect.keeps vm (core_of place) (offset_of place) width value

-- the answer of an access, a write of a value or a read; 0 for a write
abbrev pub answer : Interrupts → FramePlace → ℕ → Option ℕ → ℕ
answer vm place width (Some value) = 0
answer vm place width None = value_of vm place width (effect_at place width)

-- the interrupts after an access
abbrev pub after : Interrupts → FramePlace → ℕ → Option ℕ → Interrupts
after vm place width None = vm
after vm place width (Some value) = kept_of vm place width value (effect_at place width)
