-- The data processing instructions (ARM DDI 0487, "A64 Base Instructions"): an equation a row of the table of words.
use Rattle.std.specs.Prelude.{ℕ, ◌*◌, Bool, true, false, if◌then◌else◌}
use Rattle.a64_state.specs.Core.{CoreData}
use Rattle.a64_state.specs.Pstate.{carry_flag}
use Rattle.a64_state.specs.Registers.{x_of, with_x, x_or_sp}
use Rattle.a64_decode.specs.Lawful.{width_of}
use Rattle.a64_decode.specs.declared.instr.Instr.{Instr}
use Rattle.a64_decode.specs.declared.instr.Instr.TheVariants.{Address, AddSubImmediate, LogicalImmediate, MoveWide, Bitfield, Extract, Branch, BranchConditional, CompareBranch, TestBranch, BranchRegister, ExceptionReturn, Exception, Hint, Barrier, MsrImmediate, System, SystemRegister, LogicalShifted, AddSubShifted, AddSubExtended, AddSubCarry, ConditionalCompare, ConditionalSelect, ThreeSources, TwoSources, OneSource, LoadLiteral, Pair, LoadStoreUnsigned, LoadStoreIndexed, LoadStoreRegister, Undefined}
use Rattle.a64_alu.specs.Results.{low_x, with_nzcv}
use Rattle.a64_alu.specs.Add.{total, flags_of, with_sum, with_sum_or_sp, number_of, extended_left}
use Rattle.a64_alu.specs.Shifts.{shifted}
use Rattle.a64_alu.specs.Logical.{combined, with_logical, with_logical_or_sp, mask_of, inverted_if}
use Rattle.a64_alu.specs.Moves.{address_of, moved, field_of, placed, extracted}
use Rattle.a64_alu.specs.Conditions.{holds, operand_of, changed}
use Rattle.a64_alu.specs.Products.{product_of}
use Rattle.a64_alu.specs.Quotients.{two_sources}
use Rattle.a64_alu.specs.Reversals.{one_source}

-- the rows of data processing
abbrev pub is_data_processing : Instr → Bool
is_data_processing (Address _ _ _) = true
is_data_processing (AddSubImmediate _ _ _ _ _ _ _) = true
is_data_processing (LogicalImmediate _ _ _ _ _ _ _) = true
is_data_processing (MoveWide _ _ _ _ _) = true
is_data_processing (Bitfield _ _ _ _ _ _) = true
is_data_processing (Extract _ _ _ _ _) = true
is_data_processing (LogicalShifted _ _ _ _ _ _ _ _) = true
is_data_processing (AddSubShifted _ _ _ _ _ _ _ _) = true
is_data_processing (AddSubExtended _ _ _ _ _ _ _ _) = true
is_data_processing (AddSubCarry _ _ _ _ _ _) = true
is_data_processing (ConditionalCompare _ _ _ _ _ _) = true
is_data_processing (ConditionalSelect _ _ _ _ _ _) = true
is_data_processing (ThreeSources _ _ _ _ _ _) = true
is_data_processing (TwoSources _ _ _ _ _) = true
is_data_processing (OneSource _ _ _ _) = true
is_data_processing (Branch _ _) = false
is_data_processing (BranchConditional _ _) = false
is_data_processing (CompareBranch _ _ _ _) = false
is_data_processing (TestBranch _ _ _ _) = false
is_data_processing (BranchRegister _ _) = false
is_data_processing ExceptionReturn = false
is_data_processing (Exception _ _) = false
is_data_processing (Hint _ _) = false
is_data_processing (Barrier _ _) = false
is_data_processing (MsrImmediate _ _) = false
is_data_processing (System _ _ _ _ _) = false
is_data_processing (SystemRegister _ _ _) = false
is_data_processing (LoadLiteral _ _ _) = false
is_data_processing (Pair _ _ _ _ _ _ _) = false
is_data_processing (LoadStoreUnsigned _ _ _ _ _) = false
is_data_processing (LoadStoreIndexed _ _ _ _ _ _) = false
is_data_processing (LoadStoreRegister _ _ _ _ _ _ _) = false
is_data_processing Undefined = false

-- a core after a data processing instruction, but for the step of PC
unfoldable pub computed : Instr → CoreData → CoreData
computed (Address page offset rd) core = with_x core rd.0 (address_of page core.pc offset)
computed (AddSubImmediate wide subtract flags shift imm12 rn rd) core =
    with_sum_or_sp core rd flags (total wide subtract (x_or_sp core rn.0) (number_of shift imm12) subtract)
computed (LogicalImmediate wide kind n immr imms rn rd) core =
    let width : ℕ = width_of wide in
    with_logical_or_sp core width kind rd (combined kind (low_x core width rn) (mask_of n immr imms wide))
computed (MoveWide wide kind hw imm16 rd) core =
    let width : ℕ = width_of wide in
    with_x core rd.0 (moved width kind (low_x core width rd) (16 * hw) imm16)
computed (Bitfield wide kind immr imms rn rd) core =
    let width : ℕ = width_of wide in
    with_x core rd.0 (placed width kind (low_x core width rd) (field_of width immr imms (low_x core width rn)))
computed (Extract wide rm imms rn rd) core =
    let width : ℕ = width_of wide in
    with_x core rd.0 (extracted width (low_x core width rn) (low_x core width rm) imms)
computed (LogicalShifted wide kind shift invert rm amount rn rd) core =
    let width : ℕ = width_of wide in
    let operand : ℕ = inverted_if invert width (shifted width shift (low_x core width rm) amount) in
    with_logical core width kind rd (combined kind (low_x core width rn) operand)
computed (AddSubShifted wide subtract flags shift rm amount rn rd) core =
    let width : ℕ = width_of wide in
    let operand : ℕ = shifted width shift (low_x core width rm) amount in
    with_sum core rd flags (total wide subtract (x_of core rn.0) operand subtract)
computed (AddSubExtended wide subtract flags rm extend amount rn rd) core =
    let operand : ℕ = extended_left extend (x_of core rm.0) amount in
    with_sum_or_sp core rd flags (total wide subtract (x_or_sp core rn.0) operand subtract)
computed (AddSubCarry wide subtract flags rm rn rd) core =
    with_sum core rd flags (total wide subtract (x_of core rn.0) (x_of core rm.0) (carry_flag core.pstate))
computed (ConditionalCompare wide subtract operand condition rn nzcv) core =
    let compared : ℕ = flags_of (total wide subtract (x_of core rn.0) (operand_of core operand) subtract) in
    with_nzcv core (if holds condition core.pstate then compared else nzcv)
computed (ConditionalSelect wide kind rm condition rn rd) core =
    let width : ℕ = width_of wide in
    let other : ℕ = changed width kind (low_x core width rm) in
    with_x core rd.0 (if holds condition core.pstate then low_x core width rn else other)
computed (ThreeSources wide kind rm ra rn rd) core =
    let width : ℕ = width_of wide in
    with_x core rd.0 (product_of width kind (low_x core width ra) (low_x core width rn) (low_x core width rm))
computed (TwoSources wide kind rm rn rd) core =
    let width : ℕ = width_of wide in
    with_x core rd.0 (two_sources width kind (low_x core width rn) (low_x core width rm))
computed (OneSource wide kind rn rd) core =
    let width : ℕ = width_of wide in
    with_x core rd.0 (one_source width kind (low_x core width rn))
computed (Branch _ _) core = core
computed (BranchConditional _ _) core = core
computed (CompareBranch _ _ _ _) core = core
computed (TestBranch _ _ _ _) core = core
computed (BranchRegister _ _) core = core
computed ExceptionReturn core = core
computed (Exception _ _) core = core
computed (Hint _ _) core = core
computed (Barrier _ _) core = core
computed (MsrImmediate _ _) core = core
computed (System _ _ _ _ _) core = core
computed (SystemRegister _ _ _) core = core
computed (LoadLiteral _ _ _) core = core
computed (Pair _ _ _ _ _ _ _) core = core
computed (LoadStoreUnsigned _ _ _ _ _) core = core
computed (LoadStoreIndexed _ _ _ _ _ _) core = core
computed (LoadStoreRegister _ _ _ _ _ _ _) core = core
computed Undefined core = core
