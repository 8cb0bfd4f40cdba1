-- What a load leaves in its registers, and the base that is written back (ARM DDI 0487, "Loads and stores").
use Rattle.std.specs.Prelude.{ℕ, ◌*◌, ◌/◌, ◌%◌, ◌^◌, Option, Some, None, if◌then◌else◌}
use Rattle.a64_state.specs.Core.{CoreData}
use Rattle.a64_state.specs.Registers.{with_x, with_x_or_sp}
use Rattle.a64_decode.specs.Lawful.{is_signed_pair}
use Rattle.a64_decode.specs.Operands.{loaded}
use Rattle.a64_decode.specs.Access.{is_store, is_signed_load, is_long_load, is_wide_pair, is_signed_literal, is_wide_literal}
use Rattle.a64_decode.specs.declared.instr.Instr.{Instr}
use Rattle.a64_decode.specs.declared.instr.Instr.TheVariants.{Address, AddSubImmediate, LogicalImmediate, MoveWide, Bitfield, Extract, Branch, BranchConditional, CompareBranch, TestBranch, BranchRegister, ExceptionReturn, Exception, Hint, Barrier, MsrImmediate, System, SystemRegister, LogicalShifted, AddSubShifted, AddSubExtended, AddSubCarry, ConditionalCompare, ConditionalSelect, ThreeSources, TwoSources, OneSource, LoadLiteral, Pair, LoadStoreUnsigned, LoadStoreIndexed, LoadStoreRegister, Undefined}
use Rattle.a64_decode.specs.declared.operand.Reg.{Reg}
use Rattle.a64_decode.specs.declared.operand.PairKind.{PairKind}
use Rattle.a64_decode.specs.declared.operand.Transfer.{Transfer}
use Rattle.a64_address.specs.declared.shape.MemShape.{MemShape}

-- the elements of an access, of this many bits, in the order of their addresses
abbrev pub first_element : ℕ → ℕ → ℕ
first_element bits got = got % 2 ^ bits

abbrev pub second_element : ℕ → ℕ → ℕ
second_element bits got = got / 2 ^ bits % 2 ^ bits

-- after a load of one element of this many bits to Rt; a store leaves it
abbrev pub with_element : Transfer → ℕ → Reg → ℕ → CoreData → CoreData
with_element transfer bits rt element core =
    if is_store transfer then core
    else with_x core rt.0 (loaded (is_signed_load transfer) (is_long_load transfer) bits element)

-- after a load of one element of a pair to its register
abbrev pub with_half : PairKind → ℕ → Reg → ℕ → CoreData → CoreData
with_half kind bits rt element core = with_x core rt.0 (loaded (is_signed_pair kind) (is_wide_pair kind) bits element)

-- the base after it was written back, where it is
abbrev pub with_back : Option ℕ → Reg → CoreData → CoreData
with_back None rn core = core
with_back (Some base) rn core = with_x_or_sp core rn.0 base

-- the core after a load or a store of this shape, but for the step of PC; `got` is what was loaded, its bytes in address
-- order as one little-endian number
unfoldable pub transferred : Instr → MemShape → ℕ → CoreData → CoreData
transferred (LoadLiteral kind offset rt) shape got core =
    let bits : ℕ = 8 * shape.width in
    with_x core rt.0 (loaded (is_signed_literal kind) (is_wide_literal kind) bits (first_element bits got))
transferred (Pair kind mode load offset rt2 rn rt) shape got core =
    let bits : ℕ = 8 * shape.width in
    let first : CoreData = with_half kind bits rt (first_element bits got) core in
    let both : CoreData = with_half kind bits rt2 (second_element bits got) first in
    with_back shape.back rn (if load then both else core)
transferred (LoadStoreUnsigned size transfer imm12 rn rt) shape got core =
    let bits : ℕ = 8 * shape.width in
    with_element transfer bits rt (first_element bits got) core
transferred (LoadStoreIndexed size transfer offset mode rn rt) shape got core =
    let bits : ℕ = 8 * shape.width in
    with_back shape.back rn (with_element transfer bits rt (first_element bits got) core)
transferred (LoadStoreRegister size transfer rm extend scaled rn rt) shape got core =
    let bits : ℕ = 8 * shape.width in
    with_element transfer bits rt (first_element bits got) core
-- all other rows have no access
transferred (Address _ _ _) shape got core = core
transferred (AddSubImmediate _ _ _ _ _ _ _) shape got core = core
transferred (LogicalImmediate _ _ _ _ _ _ _) shape got core = core
transferred (MoveWide _ _ _ _ _) shape got core = core
transferred (Bitfield _ _ _ _ _ _) shape got core = core
transferred (Extract _ _ _ _ _) shape got core = core
transferred (Branch _ _) shape got core = core
transferred (BranchConditional _ _) shape got core = core
transferred (CompareBranch _ _ _ _) shape got core = core
transferred (TestBranch _ _ _ _) shape got core = core
transferred (BranchRegister _ _) shape got core = core
transferred ExceptionReturn shape got core = core
transferred (Exception _ _) shape got core = core
transferred (Hint _ _) shape got core = core
transferred (Barrier _ _) shape got core = core
transferred (MsrImmediate _ _) shape got core = core
transferred (System _ _ _ _ _) shape got core = core
transferred (SystemRegister _ _ _) shape got core = core
transferred (LogicalShifted _ _ _ _ _ _ _ _) shape got core = core
transferred (AddSubShifted _ _ _ _ _ _ _ _) shape got core = core
transferred (AddSubExtended _ _ _ _ _ _ _ _) shape got core = core
transferred (AddSubCarry _ _ _ _ _ _) shape got core = core
transferred (ConditionalCompare _ _ _ _ _ _) shape got core = core
transferred (ConditionalSelect _ _ _ _ _ _) shape got core = core
transferred (ThreeSources _ _ _ _ _ _) shape got core = core
transferred (TwoSources _ _ _ _ _) shape got core = core
transferred (OneSource _ _ _ _) shape got core = core
transferred Undefined shape got core = core
