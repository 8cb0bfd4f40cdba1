-- Accesses to the emulated frames of a VM's interrupt controller: what the syndrome of an abort says of one (ARM DDI 0487, "ISS
-- encoding for an exception from a Data Abort"), and what it comes to.
use Rattle.std.specs.Prelude.{ℕ, ◌*◌, ◌%◌, ◌^◌, ◌==◌, ◌&&◌, Bool, if◌then◌else◌, length, Option, None, Some}
use Rattle.std.specs.Option.{option_map}
use Rattle.bao_types.specs.Bits.{field}
use Rattle.a64_state.specs.Core.{CoreData}
use Rattle.a64_state.specs.Registers.{with_x, x_of}
use Rattle.a64_decode.specs.Operands.{loaded}
use Rattle.a64_execute.specs.Branch.{advanced}
use Rattle.exceptions.specs.declared.class.Class.TheVariants.{DataAbortLower}
use Rattle.bao_config.specs.Data.{ConfigData, VmData}
use Rattle.vgic_emul.specs.declared.place.FramePlace.{FramePlace}
use Rattle.vgic_emul.specs.Frame.{frame_at}
use Rattle.vgic_emul.specs.Registers.{after}
use Rattle.vgic_table.specs.Interrupts.{Interrupts}
use Rattle.vm_model.specs.Syndrome.{is_of_class}

-- the frame with the byte in it, the width in bytes, the register, whether that is stored, and the sign and width of what a load
-- puts into it
pub record FrameAccess : Type 0 where
  pub place : FramePlace
  pub width : ℕ
  pub register : ℕ
  pub stores : Bool
  pub signed : Bool
  pub wide : Bool

-- the syndrome describes its access, with its width in bytes: ISV and SAS
abbrev pub is_described : ℕ → Bool
is_described esr = field esr 24 24 == 1

abbrev pub width_of : ℕ → ℕ
width_of esr = 2 ^ field esr 23 22

-- the access that a syndrome describes, in a frame: SRT, WnR, SSE and SF
abbrev pub described : ℕ → FramePlace → FrameAccess
described esr place =
    record {
      place = place;
      width = width_of esr;
      register = field esr 20 16;
      stores = field esr 6 6 == 1;
      signed = field esr 21 21 == 1;
      wide = field esr 15 15 == 1;
    }

-- the frame of a VM's controller in which the byte lies, where there is such a VM
abbrev pub frame_of : ConfigData → Option VmData → ℕ → Option FramePlace
frame_of cfg None at = None
frame_of cfg (Some vm) at = frame_at cfg.platform.gicd cfg.platform.gicr (length vm.cores) at

-- The access of a guest that the controller of its VM answers, by the abort that it made: a load or a store that is described, at
-- a multiple of its width in a frame.
abbrev pub frame_access : ConfigData → Option VmData → ℕ → ℕ → Option FrameAccess
frame_access cfg vm esr far =
    if is_of_class DataAbortLower esr && is_described esr && (far % width_of esr == 0)
    then option_map (described esr) (frame_of cfg vm far)
    else None

-- the value that it writes, if it stores: this many bytes of the register
abbrev pub stored_value : FrameAccess → CoreData → Option ℕ
stored_value access core = if access.stores then Some (x_of core access.register % 2 ^ (8 * access.width)) else None

-- the core after it: a load has its register, and both are stepped past
abbrev pub after_access : FrameAccess → ℕ → CoreData → CoreData
after_access access value core =
    if access.stores then advanced core
    else advanced (with_x core access.register (loaded access.signed access.wide (8 * access.width) value))

-- the VM's interrupts after an access of a core
abbrev pub accessed : FrameAccess → CoreData → Interrupts → Interrupts
accessed access core table = after table access.place access.width (stored_value access core)
