-- What a row of the table of system registers says.
use Rattle.std.specs.Prelude.{ℕ, Bool, true, false, ◌&&◌, ◌==◌, nat_le, if◌then◌else◌}
use Rattle.bao_types.specs.declared.sys_id.SysId.{SysId}
use Rattle.a64_state.specs.Core.{CoreData}
use Rattle.a64_state.specs.Mode.{number_of}
use Rattle.a64_state.specs.declared.mode.Mode.TheVariants.{El0t, El1h}
use Rattle.a64_state.specs.declared.registers.SysRegs.{SysRegs}
use Rattle.a64_sysreg.specs.declared.moment.Moment.{Moment}
use Rattle.a64_sysreg.specs.declared.rights.Rights.{Rights}
use Rattle.a64_sysreg.specs.declared.rights.Rights.TheVariants.{Nothing, Read, Write, ReadWrite}
use Rattle.a64_sysreg.specs.declared.access.SysRead.{SysRead}
use Rattle.a64_sysreg.specs.declared.access.SysRead.TheVariants as read
use Rattle.a64_sysreg.specs.declared.access.SysWrite.{SysWrite}
use Rattle.a64_sysreg.specs.declared.access.SysWrite.TheVariants as write

pub record Row : Type 0 where
  -- the numbers of the register
  pub number : SysId → Bool
  -- what may be done with it in a mode
  pub rights : ℕ → Rights
  -- what a read gives, of the core at a moment
  pub read : CoreData → Moment → SysRead
  -- the core after a write of a value at a moment
  pub after : CoreData → Moment → ℕ → CoreData
  -- what a write of a value answers
  pub answer : ℕ → SysWrite

-- a register's number: op0, op1, CRn, CRm and op2
abbrev pub sys_id : ℕ → ℕ → ℕ → ℕ → ℕ → SysId
sys_id op0 op1 crn crm op2 = record { op0 = op0; op1 = op1; crn = crn; crm = crm; op2 = op2 }

-- the one number of a register
abbrev pub numbered : SysId → SysId → Bool
numbered number id =
    (id.op0 == number.op0) && (id.op1 == number.op1) && (id.crn == number.crn) && (id.crm == number.crm)
    && (id.op2 == number.op2)

-- the numbers of the identification registers: CRm 1 to 7, and any op2
abbrev pub is_identification : SysId → Bool
is_identification id = (id.op0 == 3) && (id.op1 == 0) && (id.crn == 0) && nat_le 1 id.crm && nat_le id.crm 7

abbrev pub allows_read : Rights → Bool
allows_read Nothing = false
allows_read Read = true
allows_read Write = false
allows_read ReadWrite = true

abbrev pub allows_write : Rights → Bool
allows_write Nothing = false
allows_write Read = false
allows_write Write = true
allows_write ReadWrite = true

-- EL0 has no access
abbrev pub at_el1 : Rights → ℕ → Rights
at_el1 rights mode = if mode == number_of El0t then Nothing else rights

-- nor has EL1 with SP_EL0
abbrev pub with_own_sp : Rights → ℕ → Rights
with_own_sp rights mode = if mode == number_of El1h then rights else Nothing

-- EL0 only reads
abbrev pub read_at_el0 : Rights → ℕ → Rights
read_at_el0 rights mode = if mode == number_of El0t then Read else rights

-- EL0 has the same access as EL1
abbrev pub everywhere : Rights → ℕ → Rights
everywhere rights mode = rights

-- a register that is only read
abbrev pub read_only : (SysId → Bool) → (Rights → ℕ → Rights) → (CoreData → Moment → ℕ) → Row
read_only number at value =
    record {
      number = number;
      rights = at Read;
      read = λ core moment. read.Value (value core moment);
      after = λ core moment value. core;
      answer = λ value. write.Undefined;
    }

-- a register that is read and written
abbrev pub read_write :
    (SysId → Bool) → (Rights → ℕ → Rights) → (CoreData → Moment → ℕ) → (CoreData → Moment → ℕ → CoreData) → Row
read_write number at value after =
    record {
      number = number;
      rights = at ReadWrite;
      read = λ core moment. read.Value (value core moment);
      after = after;
      answer = λ value. write.Done;
    }

-- a register that is kept, and has no other effect here
abbrev pub kept : (SysId → Bool) → (Rights → ℕ → Rights) → (SysRegs → ℕ) → (SysRegs → ℕ → SysRegs) → Row
kept number at value after =
    read_write number at (λ core moment. value core.sys) (λ core moment value. record core { sys = after core.sys value })

-- a register that is only written, and whose write has this answer and leaves the core
abbrev pub write_only : (SysId → Bool) → (Rights → ℕ → Rights) → (ℕ → SysWrite) → Row
write_only number at answer =
    record {
      number = number;
      rights = at Write;
      read = λ core moment. read.Undefined;
      after = λ core moment value. core;
      answer = answer;
    }
