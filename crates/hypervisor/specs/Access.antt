-- Accesses to the frames of a VM's interrupt controller, as the code has them.
use Rattle.std.specs.Prelude.{◌≡◌, ◌<◌, ◌≤◌, ◌%◌}
use Rattle.vgic_emul.specs.Registers.{core_of, offset_of}
use Rattle.vm_model.specs.Frames.{FrameAccess}
use Rattle.hypervisor.specs.declared.syndrome.FrameAccess as code

-- the access of the model
abbrev pub access_of : code.FrameAccess → FrameAccess
access_of access =
    record {
      place = access.place;
      width = access.width;
      register = access.register;
      stores = access.stores;
      signed = access.signed;
      wide = access.wide;
    }

-- an access as a syndrome can describe it: of a core that a VM may have, of one to eight bytes at a multiple of their number, and of a
-- register that an instruction can name
pub record IsAccess (access : FrameAccess) : Type 0 where
  pub core : core_of access.place < 8
  pub aligned : offset_of access.place % access.width ≡ 0
  pub least : 1 ≤ access.width
  pub most : access.width ≤ 8
  pub register : access.register < 32
