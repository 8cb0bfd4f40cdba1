-- What an instruction asks before it can be completed: nothing, a load or a store, that an interrupt is taken or ends, that EL1
-- takes an exception, or that EL2 takes one. What it does to the core once it has that is in Finish.
use Rattle.std.specs.Prelude.{◌≡◌, ℕ, ◌+◌, ◌*◌, ◌^◌, ◌<◌, ◌==◌, Option, Some, None, Bool, true, false, IsTrue, IsFalse, if◌then◌else◌}
use Rattle.bao_types.specs.Bytes.{IsWidth}
use Rattle.bao_types.specs.declared.sys_id.SysId.{SysId}
use Rattle.bao_types.specs.Controller.{id_end}
use Rattle.a64_state.specs.Core.{CoreData}
use Rattle.a64_state.specs.Registers.{level, x_of}
use Rattle.a64_decode.specs.declared.instr.Instr.{Instr}
use Rattle.a64_decode.specs.declared.instr.Instr.TheVariants.{Address, AddSubImmediate, LogicalImmediate, MoveWide, Bitfield, Extract, Branch, BranchConditional, CompareBranch, TestBranch, BranchRegister, ExceptionReturn, Exception, Hint, Barrier, MsrImmediate, System, SystemRegister, LogicalShifted, AddSubShifted, AddSubExtended, AddSubCarry, ConditionalCompare, ConditionalSelect, ThreeSources, TwoSources, OneSource, LoadLiteral, Pair, LoadStoreUnsigned, LoadStoreIndexed, LoadStoreRegister, Undefined}
use Rattle.a64_decode.specs.declared.operand.ExceptionKind.{ExceptionKind}
use Rattle.a64_decode.specs.declared.operand.ExceptionKind.TheVariants.{Svc, Hvc, Smc, Brk}
use Rattle.a64_decode.specs.declared.operand.Reg.{Reg}
use Rattle.a64_alu.specs.Results.{low_x}
use Rattle.a64_address.specs.declared.shape.MemShape.{MemShape}
use Rattle.a64_address.specs.Shape.{memory_shape, IsCount}
use Rattle.a64_sysreg.specs.Table.{acknowledges}
use Rattle.a64_sysreg.specs.Access.{may_read, write_answer}
use Rattle.a64_sysreg.specs.declared.access.SysWrite.{SysWrite}
use Rattle.a64_sysreg.specs.declared.access.SysWrite.TheVariants as write
use Rattle.exceptions.specs.declared.class.Class.TheVariants.{Unknown, SystemRegister as SystemWrite}
use Rattle.exceptions.specs.Syndrome.{syndrome_of, class_number, class_of, register_write}
use Rattle.a64_execute.specs.Branch.{next_pc}
use Rattle.a64_execute.specs.declared.need.Need.{Need}
use Rattle.a64_execute.specs.declared.need.Need.TheVariants as need

-- what is undefined is taken at EL1, and returns to itself
abbrev pub undefined_at : CoreData → Need
undefined_at core = need.Raise (syndrome_of (class_number Unknown) 0) core.pc

-- what EL1 alone may execute is undefined at EL0
abbrev pub at_el1 : CoreData → Need → Need
at_el1 core asks = if level core == 1 then asks else undefined_at core

-- the syndrome of an instruction that makes an exception
abbrev pub call_syndrome : ExceptionKind → ℕ → ℕ
call_syndrome kind imm16 = syndrome_of (class_number (class_of kind)) imm16

-- EL1 takes SVC, which returns after itself, and BRK, which returns to itself. EL2 takes HVC, which leaves PC after
-- itself, and SMC, which leaves it at itself.
abbrev pub exception_need : CoreData → ExceptionKind → ℕ → Need
exception_need core Svc imm16 = need.Raise (call_syndrome Svc imm16) (next_pc core)
exception_need core Hvc imm16 = at_el1 core (need.Leave (call_syndrome Hvc imm16) true)
exception_need core Smc imm16 = at_el1 core (need.Leave (call_syndrome Smc imm16) false)
exception_need core Brk imm16 = need.Raise (call_syndrome Brk imm16) core.pc

-- MRS of a register that the level may read; ICC_IAR1_EL1 asks that the interrupt is taken that it gives
abbrev pub read_need : CoreData → SysId → Need
read_need core id =
    if may_read core id then if acknowledges id then need.Acknowledge else need.Done else undefined_at core

-- MSR of a register from Rt, by what the write comes to
abbrev pub write_need : CoreData → SysId → Reg → SysWrite → Need
write_need core id rt write.Done = need.Done
write_need core id rt (write.End ended) = need.End ended
write_need core id rt write.Undefined = undefined_at core
write_need core id rt write.TrapEl2 = need.Leave (syndrome_of (class_number SystemWrite) (register_write id rt)) false

-- MRS and MSR of a register
abbrev pub register_need : CoreData → Bool → SysId → Reg → Need
register_need core read id rt =
    if read then read_need core id else write_need core id rt (write_answer core id (x_of core rt.0))

-- What a row asks that has no access. A load or a store without one is a prefetch; a pair always has one.
unfoldable pub asked : CoreData → Instr → Need
asked core (Address page offset rd) = need.Done
asked core (AddSubImmediate wide subtract flags shift imm12 rn rd) = need.Done
asked core (LogicalImmediate wide kind n immr imms rn rd) = need.Done
asked core (MoveWide wide kind hw imm16 rd) = need.Done
asked core (Bitfield wide kind immr imms rn rd) = need.Done
asked core (Extract wide rm imms rn rd) = need.Done
asked core (Branch link offset) = need.Done
asked core (BranchConditional offset condition) = need.Done
asked core (CompareBranch wide nonzero offset rt) = need.Done
asked core (TestBranch bit nonzero offset rt) = need.Done
asked core (BranchRegister kind rn) = need.Done
asked core ExceptionReturn = at_el1 core need.Done
asked core (Exception kind imm16) = exception_need core kind imm16
asked core (Hint crm op2) = need.Done
asked core (Barrier crm kind) = need.Done
asked core (MsrImmediate part crm) = at_el1 core need.Done
asked core (System op1 crn crm op2 rt) = at_el1 core need.Done
asked core (SystemRegister read id rt) = register_need core read id rt
asked core (LogicalShifted wide kind shift invert rm amount rn rd) = need.Done
asked core (AddSubShifted wide subtract flags shift rm amount rn rd) = need.Done
asked core (AddSubExtended wide subtract flags rm extend amount rn rd) = need.Done
asked core (AddSubCarry wide subtract flags rm rn rd) = need.Done
asked core (ConditionalCompare wide subtract operand condition rn nzcv) = need.Done
asked core (ConditionalSelect wide kind rm condition rn rd) = need.Done
asked core (ThreeSources wide kind rm ra rn rd) = need.Done
asked core (TwoSources wide kind rm rn rd) = need.Done
asked core (OneSource wide kind rn rd) = need.Done
asked core (LoadLiteral kind offset rt) = need.Done
asked core (Pair kind mode load offset rt2 rn rt) = need.Done
asked core (LoadStoreUnsigned size transfer imm12 rn rt) = need.Done
asked core (LoadStoreIndexed size transfer offset mode rn rt) = need.Done
asked core (LoadStoreRegister size transfer rm extend scaled rn rt) = need.Done
asked core Undefined = undefined_at core

-- the bytes of an access
abbrev pub bytes_of : MemShape → ℕ
bytes_of shape = shape.width * shape.count

-- What is stored, whose elements have this many bits: the lowest bits of Rt, and of a pair's Rt2 after them in memory.
-- The value is the bytes in address order as one little-endian number. No other row stores, so theirs means nothing.
abbrev pub stored_value : CoreData → Instr → ℕ → ℕ
stored_value core (Pair kind mode load offset rt2 rn rt) bits = low_x core bits rt + 2 ^ bits * low_x core bits rt2
stored_value core (LoadStoreUnsigned size transfer imm12 rn rt) bits = low_x core bits rt
stored_value core (LoadStoreIndexed size transfer offset mode rn rt) bits = low_x core bits rt
stored_value core (LoadStoreRegister size transfer rm extend scaled rn rt) bits = low_x core bits rt
stored_value core (Address _ _ _) bits = 0
stored_value core (AddSubImmediate _ _ _ _ _ _ _) bits = 0
stored_value core (LogicalImmediate _ _ _ _ _ _ _) bits = 0
stored_value core (MoveWide _ _ _ _ _) bits = 0
stored_value core (Bitfield _ _ _ _ _ _) bits = 0
stored_value core (Extract _ _ _ _ _) bits = 0
stored_value core (Branch _ _) bits = 0
stored_value core (BranchConditional _ _) bits = 0
stored_value core (CompareBranch _ _ _ _) bits = 0
stored_value core (TestBranch _ _ _ _) bits = 0
stored_value core (BranchRegister _ _) bits = 0
stored_value core ExceptionReturn bits = 0
stored_value core (Exception _ _) bits = 0
stored_value core (Hint _ _) bits = 0
stored_value core (Barrier _ _) bits = 0
stored_value core (MsrImmediate _ _) bits = 0
stored_value core (System _ _ _ _ _) bits = 0
stored_value core (SystemRegister _ _ _) bits = 0
stored_value core (LogicalShifted _ _ _ _ _ _ _ _) bits = 0
stored_value core (AddSubShifted _ _ _ _ _ _ _ _) bits = 0
stored_value core (AddSubExtended _ _ _ _ _ _ _ _) bits = 0
stored_value core (AddSubCarry _ _ _ _ _ _) bits = 0
stored_value core (ConditionalCompare _ _ _ _ _ _) bits = 0
stored_value core (ConditionalSelect _ _ _ _ _ _) bits = 0
stored_value core (ThreeSources _ _ _ _ _ _) bits = 0
stored_value core (TwoSources _ _ _ _ _) bits = 0
stored_value core (OneSource _ _ _ _) bits = 0
stored_value core (LoadLiteral _ _ _) bits = 0
stored_value core Undefined bits = 0

-- what a row asks that has no access, and one with this access
abbrev pub need_of : CoreData → Instr → Option MemShape → Need
need_of core instr None = asked core instr
need_of core instr (Some shape) =
    if shape.store then need.Store shape (stored_value core instr (8 * shape.width)) else need.Load shape

-- what an instruction asks
unfoldable pub wanted : CoreData → Instr → Need
wanted core instr = need_of core instr (memory_shape core instr)

-- the access that is asked for
abbrev pub access_asked : Need → Option MemShape
access_asked need.Done = None
access_asked (need.Load shape) = Some shape
access_asked (need.Store shape value) = Some shape
access_asked (need.Raise esr back) = None
access_asked (need.Leave esr past) = None
access_asked need.Acknowledge = None
access_asked (need.End id) = None

-- what is asked is the core's alone: the instruction reaches nothing of the world, and no exception is taken
abbrev pub is_of_core_alone : Need → Bool
is_of_core_alone need.Done = true
is_of_core_alone need.Acknowledge = true
is_of_core_alone (need.End id) = true
is_of_core_alone (need.Load shape) = false
is_of_core_alone (need.Store shape value) = false
is_of_core_alone (need.Raise esr back) = false
is_of_core_alone (need.Leave esr past) = false

-- an access of one or two elements of 1, 2, 4 or 8 bytes
pub record IsAccess (shape : MemShape) : Type 0 where
  pub width : IsWidth shape.width
  pub count : IsCount shape.count

-- what holds of the access of every need
abbrev pub IsNeed : Need → Type 0
IsNeed need.Done = Unit {0}
IsNeed (need.Load shape) = IsAccess shape × IsFalse shape.store
IsNeed (need.Store shape value) = IsAccess shape × IsTrue shape.store
IsNeed (need.Raise esr back) = Unit {0}
IsNeed (need.Leave esr past) = Unit {0}
IsNeed need.Acknowledge = Unit {0}
IsNeed (need.End id) = id < id_end
