-- What each instruction leaves of the core that has no access and asks for nothing: an equation a row of the table of words.
use Rattle.std.specs.Prelude.{ℕ, ◌/◌, ◌%◌, ◌^◌, Bool, ◌==◌, not, if◌then◌else◌}
use Rattle.a64_state.specs.Core.{CoreData}
use Rattle.a64_state.specs.Registers.{x_of}
use Rattle.a64_decode.specs.Lawful.{width_of}
use Rattle.a64_decode.specs.declared.instr.Instr.{Instr}
use Rattle.a64_decode.specs.declared.instr.Instr.TheVariants.{Address, AddSubImmediate, LogicalImmediate, MoveWide, Bitfield, Extract, Branch, BranchConditional, CompareBranch, TestBranch, BranchRegister, ExceptionReturn, Exception, Hint, Barrier, MsrImmediate, System, SystemRegister, LogicalShifted, AddSubShifted, AddSubExtended, AddSubCarry, ConditionalCompare, ConditionalSelect, ThreeSources, TwoSources, OneSource, LoadLiteral, Pair, LoadStoreUnsigned, LoadStoreIndexed, LoadStoreRegister, Undefined}
use Rattle.a64_alu.specs.Computed.{computed}
use Rattle.a64_alu.specs.Conditions.{holds}
use Rattle.a64_alu.specs.Results.{low_x}
use Rattle.a64_sysreg.specs.declared.moment.Moment.{Moment}
use Rattle.exceptions.specs.Return.{returned}
use Rattle.a64_execute.specs.Branch.{advanced, target_of, with_link, at_target_if, is_linked}
use Rattle.a64_execute.specs.System.{with_field, with_access}

-- Data processing computes, branches go to their target, and all others go on to the next instruction, with or without an
-- effect. A register is read before the link is written.
unfoldable pub executed : Instr → Moment → CoreData → CoreData
executed (Address page offset rd) moment core = advanced (computed (Address page offset rd) core)
executed (AddSubImmediate wide subtract flags shift imm12 rn rd) moment core =
    advanced (computed (AddSubImmediate wide subtract flags shift imm12 rn rd) core)
executed (LogicalImmediate wide kind n immr imms rn rd) moment core =
    advanced (computed (LogicalImmediate wide kind n immr imms rn rd) core)
executed (MoveWide wide kind hw imm16 rd) moment core = advanced (computed (MoveWide wide kind hw imm16 rd) core)
executed (Bitfield wide kind immr imms rn rd) moment core = advanced (computed (Bitfield wide kind immr imms rn rd) core)
executed (Extract wide rm imms rn rd) moment core = advanced (computed (Extract wide rm imms rn rd) core)
executed (Branch link offset) moment core = record (with_link link core) { pc = target_of core offset }
executed (BranchConditional offset condition) moment core = at_target_if (holds condition core.pstate) offset core
executed (CompareBranch wide nonzero offset rt) moment core =
    let is_zero : Bool = low_x core (width_of wide) rt == 0 in
    at_target_if (if nonzero then not is_zero else is_zero) offset core
executed (TestBranch bit nonzero offset rt) moment core =
    at_target_if (x_of core rt.0 / 2 ^ bit % 2 == (if nonzero then 1 else 0)) offset core
executed (BranchRegister kind rn) moment core = record (with_link (is_linked kind) core) { pc = x_of core rn.0 }
executed ExceptionReturn moment core = returned core
executed (Hint crm op2) moment core = advanced core
executed (Barrier crm kind) moment core = advanced core
executed (MsrImmediate part crm) moment core = advanced (with_field part crm core)
executed (System op1 crn crm op2 rt) moment core = advanced core
executed (SystemRegister read id rt) moment core = advanced (with_access read id rt moment core)
executed (LogicalShifted wide kind shift invert rm amount rn rd) moment core =
    advanced (computed (LogicalShifted wide kind shift invert rm amount rn rd) core)
executed (AddSubShifted wide subtract flags shift rm amount rn rd) moment core =
    advanced (computed (AddSubShifted wide subtract flags shift rm amount rn rd) core)
executed (AddSubExtended wide subtract flags rm extend amount rn rd) moment core =
    advanced (computed (AddSubExtended wide subtract flags rm extend amount rn rd) core)
executed (AddSubCarry wide subtract flags rm rn rd) moment core =
    advanced (computed (AddSubCarry wide subtract flags rm rn rd) core)
executed (ConditionalCompare wide subtract operand condition rn nzcv) moment core =
    advanced (computed (ConditionalCompare wide subtract operand condition rn nzcv) core)
executed (ConditionalSelect wide kind rm condition rn rd) moment core =
    advanced (computed (ConditionalSelect wide kind rm condition rn rd) core)
executed (ThreeSources wide kind rm ra rn rd) moment core = advanced (computed (ThreeSources wide kind rm ra rn rd) core)
executed (TwoSources wide kind rm rn rd) moment core = advanced (computed (TwoSources wide kind rm rn rd) core)
executed (OneSource wide kind rn rd) moment core = advanced (computed (OneSource wide kind rn rd) core)
-- prefetches
executed (LoadLiteral kind offset rt) moment core = advanced core
executed (LoadStoreUnsigned size transfer imm12 rn rt) moment core = advanced core
executed (LoadStoreIndexed size transfer offset mode rn rt) moment core = advanced core
executed (LoadStoreRegister size transfer rm extend scaled rn rt) moment core = advanced core
-- These don't come here: a pair has an access, and the others ask for an exception.
executed (Pair kind mode load offset rt2 rn rt) moment core = core
executed (Exception kind imm16) moment core = core
executed Undefined moment core = core
