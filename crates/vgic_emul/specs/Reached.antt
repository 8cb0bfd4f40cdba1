-- The registers as the code names them. No public clause cites this module.
use Rattle.std.specs.Prelude.{◌≡◌, ℕ, ◌+◌, ◌<◌, ◌≤◌, Bool}
use Rattle.vgic_table.specs.declared.id_state.IdState.{IdState}
use Rattle.vgic_emul.specs.declared.register.Flag.{Flag}
use Rattle.vgic_emul.specs.declared.register.Flag.TheVariants.{Enabled, Pending}
use Rattle.vgic_emul.specs.declared.register.Register.{Register}
use Rattle.vgic_emul.specs.declared.register.Register.TheVariants.{Control, DistributorType, CoreType, Flags, Priorities}
use Rattle.vgic_emul.specs.Effects.{Effect, control, core_type, distributor_type, enabled, first_flagged, flags, pending, priorities, with_enabled, with_pending}

abbrev pub has : Flag → IdState → Bool
has Enabled = enabled
has Pending = pending

abbrev pub with_flag : Flag → Bool → IdState → IdState
with_flag Enabled = with_enabled
with_flag Pending = with_pending

abbrev pub effect_of : Register → Effect
effect_of Control = control
effect_of DistributorType = distributor_type
effect_of CoreType = core_type
effect_of (Flags flag sets) = flags (has flag) (with_flag flag sets)
effect_of Priorities = priorities

-- an access of a register lies in it: it has a width of the register's, its ids are ids of the table, and its bytes are the register's
abbrev pub Fits : ℕ → ℕ → Register → Type 0
Fits offset width Control = width ≡ 4
Fits offset width DistributorType = width ≡ 4
Fits offset width CoreType = (8 ≤ offset) × (offset < 16) × (offset + width ≤ 16)
Fits offset width (Flags flag sets) = (first_flagged offset ≤ 64) × (width ≡ 4)
Fits offset width Priorities = (0x400 ≤ offset) × (offset < 0x460) × (offset + width ≤ 0x460) × (width ≤ 4)
