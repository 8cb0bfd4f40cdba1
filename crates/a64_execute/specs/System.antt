-- MRS, MSR of a register, and MSR of a field of PSTATE (ARM DDI 0487, "MRS", "MSR (register)" and "MSR (immediate)"), but for
-- the step of PC.
use Rattle.std.specs.Prelude.{ℕ, Bool, bit_and, bit_or, if◌then◌else◌}
use Rattle.bao_types.specs.declared.sys_id.SysId.{SysId}
use Rattle.a64_state.specs.Core.{CoreData}
use Rattle.a64_state.specs.Registers.{x_of, with_x}
use Rattle.a64_state.specs.Pstate.{daif, with_daif}
use Rattle.a64_decode.specs.declared.operand.Reg.{Reg}
use Rattle.a64_decode.specs.declared.operand.PstateField.{PstateField}
use Rattle.a64_decode.specs.declared.operand.PstateField.TheVariants.{SpSel, DaifSet, DaifClr}
use Rattle.a64_alu.specs.Numbers.{inverted}
use Rattle.a64_sysreg.specs.declared.moment.Moment.{Moment}
use Rattle.a64_sysreg.specs.declared.access.SysRead.{SysRead}
use Rattle.a64_sysreg.specs.declared.access.SysRead.TheVariants as read
use Rattle.a64_sysreg.specs.Value.{with_pstate, with_sp_sel}
use Rattle.a64_sysreg.specs.Access.{read_answer, written}

-- bit 0 of the immediate selects EL1's own stack pointer; its four bits set or clear D, A, I and F
abbrev pub with_field : PstateField → ℕ → CoreData → CoreData
with_field SpSel crm core = with_sp_sel core crm
with_field DaifSet crm core = with_pstate core (with_daif core.pstate (bit_or (daif core.pstate) crm))
with_field DaifClr crm core = with_pstate core (with_daif core.pstate (bit_and (daif core.pstate) (inverted 4 crm)))

-- what is read goes to Rt; a read of a register that the level may read gives nothing else
abbrev pub with_answer : SysRead → Reg → CoreData → CoreData
with_answer (read.Value value) rt core = with_x core rt.0 value
with_answer read.Undefined rt core = core

-- MRS to Rt, and MSR from Rt, at a moment
abbrev pub with_access : Bool → SysId → Reg → Moment → CoreData → CoreData
with_access reads id rt moment core =
    if reads then with_answer (read_answer core moment id) rt core else written core moment id (x_of core rt.0)
