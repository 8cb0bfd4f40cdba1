-- The word of an instruction, by its row of the table: the fixed bits of the row, and the codes of its fields. What a word
-- decodes to is said by the table alone; no public clause cites this module.
use Rattle.std.specs.Prelude.{ℕ, ◌+◌, ◌-◌, ◌*◌, ◌/◌, ◌%◌, ◌^◌, List, [], ◌∷◌}
use Rattle.a64_decode.specs.declared.instr.Instr.{Instr}
use Rattle.a64_decode.specs.declared.instr.Instr.TheVariants.{Address, AddSubImmediate, LogicalImmediate, MoveWide, Bitfield, Extract, Branch, BranchConditional, CompareBranch, TestBranch, BranchRegister, ExceptionReturn, Exception, Hint, Barrier, MsrImmediate, System, SystemRegister, LogicalShifted, AddSubShifted, AddSubExtended, AddSubCarry, ConditionalCompare, ConditionalSelect, ThreeSources, TwoSources, OneSource, LoadLiteral, Pair, LoadStoreUnsigned, LoadStoreIndexed, LoadStoreRegister, Undefined}
use Rattle.a64_decode.specs.Pattern.{Part, Row}
use Rattle.a64_decode.specs.Pattern.Part.{Fixed, Free}
use Rattle.a64_decode.specs.Table.{address_row, add_sub_immediate_row, logical_immediate_row, move_wide_row, bitfield_row, extract_row, branch_row, branch_conditional_row, compare_branch_row, test_branch_row, branch_register_row, exception_return_row, exception_row, hint_row, barrier_row, msr_immediate_row, system_row, system_register_row, logical_shifted_row, add_sub_shifted_row, add_sub_extended_row, add_sub_carry_row, conditional_compare_row, conditional_select_row, three_sources_row, two_sources_row, one_source_row, load_literal_row, pair_row, load_store_unsigned_row, load_store_indexed_row, load_store_register_row}
use Rattle.a64_decode.specs.Codes.{bit, size_bit, condition_number, shift_number, extend_number, logical_number, move_number, bitfield_number, branch_number, barrier_number, two_source_number, one_source_number, literal_number, pair_number, mode_number, index_number, transfer_number, select_op, select_o2, product_op31, product_o0, exception_brk, exception_ll, pstate_op1, pstate_op2, operand_i, operand_bits, unsigned_of}
use Rattle.a64_decode.specs.Access.{scale_of}

-- the number that these parts are, below bit `top`, with these values of the free fields
abbrev pub join : ℕ → List Part → List ℕ → ℕ
join top [] fields = 0
join top (Fixed width value ∷ parts) fields = value * 2 ^ (top - width) + join (top - width) parts fields
join top (Free width ∷ parts) [] = 0
join top (Free width ∷ parts) (value ∷ fields) = value * 2 ^ (top - width) + join (top - width) parts fields

-- the free fields of an instruction's row
unfoldable pub fields_of : Instr → List ℕ
fields_of (Address page offset rd) =
    bit page ∷ (unsigned_of 1048576 offset % 4) ∷ (unsigned_of 1048576 offset / 4) ∷ rd.0 ∷ []
fields_of (AddSubImmediate wide subtract flags shifted imm12 rn rd) =
    bit wide ∷ bit subtract ∷ bit flags ∷ bit shifted ∷ imm12 ∷ rn.0 ∷ rd.0 ∷ []
fields_of (LogicalImmediate wide kind n immr imms rn rd) =
    bit wide ∷ logical_number kind ∷ n ∷ immr ∷ imms ∷ rn.0 ∷ rd.0 ∷ []
fields_of (MoveWide wide kind hw imm16 rd) = bit wide ∷ move_number kind ∷ hw ∷ imm16 ∷ rd.0 ∷ []
fields_of (Bitfield wide kind immr imms rn rd) =
    bit wide ∷ bitfield_number kind ∷ size_bit wide ∷ immr ∷ imms ∷ rn.0 ∷ rd.0 ∷ []
fields_of (Extract wide rm imms rn rd) = bit wide ∷ size_bit wide ∷ rm.0 ∷ imms ∷ rn.0 ∷ rd.0 ∷ []
fields_of (Branch link offset) = bit link ∷ unsigned_of 33554432 offset ∷ []
fields_of (BranchConditional offset condition) = unsigned_of 262144 offset ∷ condition_number condition ∷ []
fields_of (CompareBranch wide nonzero offset rt) = bit wide ∷ bit nonzero ∷ unsigned_of 262144 offset ∷ rt.0 ∷ []
fields_of (TestBranch place nonzero offset rt) =
    (place / 32) ∷ bit nonzero ∷ (place % 32) ∷ unsigned_of 8192 offset ∷ rt.0 ∷ []
fields_of (BranchRegister kind rn) = branch_number kind ∷ rn.0 ∷ []
fields_of ExceptionReturn = []
fields_of (Exception kind imm16) = exception_brk kind ∷ imm16 ∷ exception_ll kind ∷ []
fields_of (Hint crm op2) = crm ∷ op2 ∷ []
fields_of (Barrier crm kind) = crm ∷ barrier_number kind ∷ []
fields_of (MsrImmediate part crm) = pstate_op1 part ∷ crm ∷ pstate_op2 part ∷ []
fields_of (System op1 crn crm op2 rt) = op1 ∷ crn ∷ crm ∷ op2 ∷ rt.0 ∷ []
fields_of (SystemRegister read id rt) = bit read ∷ (id.op0 - 2) ∷ id.op1 ∷ id.crn ∷ id.crm ∷ id.op2 ∷ rt.0 ∷ []
fields_of (LogicalShifted wide kind shift invert rm amount rn rd) =
    bit wide ∷ logical_number kind ∷ shift_number shift ∷ bit invert ∷ rm.0 ∷ amount ∷ rn.0 ∷ rd.0 ∷ []
fields_of (AddSubShifted wide subtract flags shift rm amount rn rd) =
    bit wide ∷ bit subtract ∷ bit flags ∷ shift_number shift ∷ rm.0 ∷ amount ∷ rn.0 ∷ rd.0 ∷ []
fields_of (AddSubExtended wide subtract flags rm extend amount rn rd) =
    bit wide ∷ bit subtract ∷ bit flags ∷ rm.0 ∷ extend_number extend ∷ amount ∷ rn.0 ∷ rd.0 ∷ []
fields_of (AddSubCarry wide subtract flags rm rn rd) = bit wide ∷ bit subtract ∷ bit flags ∷ rm.0 ∷ rn.0 ∷ rd.0 ∷ []
fields_of (ConditionalCompare wide subtract operand condition rn nzcv) =
    bit wide ∷ bit subtract ∷ operand_bits operand ∷ condition_number condition ∷ operand_i operand ∷ rn.0 ∷ nzcv ∷ []
fields_of (ConditionalSelect wide kind rm condition rn rd) =
    bit wide ∷ select_op kind ∷ rm.0 ∷ condition_number condition ∷ select_o2 kind ∷ rn.0 ∷ rd.0 ∷ []
fields_of (ThreeSources wide kind rm ra rn rd) =
    bit wide ∷ product_op31 kind ∷ rm.0 ∷ product_o0 kind ∷ ra.0 ∷ rn.0 ∷ rd.0 ∷ []
fields_of (TwoSources wide kind rm rn rd) = bit wide ∷ rm.0 ∷ two_source_number kind ∷ rn.0 ∷ rd.0 ∷ []
fields_of (OneSource wide kind rn rd) = bit wide ∷ one_source_number kind ∷ rn.0 ∷ rd.0 ∷ []
fields_of (LoadLiteral kind offset rt) = literal_number kind ∷ unsigned_of 262144 offset ∷ rt.0 ∷ []
fields_of (Pair kind mode load offset rt2 rn rt) =
    pair_number kind ∷ mode_number mode ∷ bit load ∷ unsigned_of 64 offset ∷ rt2.0 ∷ rn.0 ∷ rt.0 ∷ []
fields_of (LoadStoreUnsigned size transfer imm12 rn rt) =
    scale_of size ∷ transfer_number transfer ∷ imm12 ∷ rn.0 ∷ rt.0 ∷ []
fields_of (LoadStoreIndexed size transfer offset mode rn rt) =
    scale_of size ∷ transfer_number transfer ∷ unsigned_of 256 offset ∷ index_number mode ∷ rn.0 ∷ rt.0 ∷ []
fields_of (LoadStoreRegister size transfer rm extend scaled rn rt) =
    scale_of size ∷ transfer_number transfer ∷ rm.0 ∷ extend_number extend ∷ bit scaled ∷ rn.0 ∷ rt.0 ∷ []
fields_of Undefined = []

-- the row that makes an instruction
unfoldable pub row_of : Instr → Row
row_of (Address page offset rd) = address_row
row_of (AddSubImmediate wide subtract flags shifted imm12 rn rd) = add_sub_immediate_row
row_of (LogicalImmediate wide kind n immr imms rn rd) = logical_immediate_row
row_of (MoveWide wide kind hw imm16 rd) = move_wide_row
row_of (Bitfield wide kind immr imms rn rd) = bitfield_row
row_of (Extract wide rm imms rn rd) = extract_row
row_of (Branch link offset) = branch_row
row_of (BranchConditional offset condition) = branch_conditional_row
row_of (CompareBranch wide nonzero offset rt) = compare_branch_row
row_of (TestBranch place nonzero offset rt) = test_branch_row
row_of (BranchRegister kind rn) = branch_register_row
row_of ExceptionReturn = exception_return_row
row_of (Exception kind imm16) = exception_row
row_of (Hint crm op2) = hint_row
row_of (Barrier crm kind) = barrier_row
row_of (MsrImmediate part crm) = msr_immediate_row
row_of (System op1 crn crm op2 rt) = system_row
row_of (SystemRegister read id rt) = system_register_row
row_of (LogicalShifted wide kind shift invert rm amount rn rd) = logical_shifted_row
row_of (AddSubShifted wide subtract flags shift rm amount rn rd) = add_sub_shifted_row
row_of (AddSubExtended wide subtract flags rm extend amount rn rd) = add_sub_extended_row
row_of (AddSubCarry wide subtract flags rm rn rd) = add_sub_carry_row
row_of (ConditionalCompare wide subtract operand condition rn nzcv) = conditional_compare_row
row_of (ConditionalSelect wide kind rm condition rn rd) = conditional_select_row
row_of (ThreeSources wide kind rm ra rn rd) = three_sources_row
row_of (TwoSources wide kind rm rn rd) = two_sources_row
row_of (OneSource wide kind rn rd) = one_source_row
row_of (LoadLiteral kind offset rt) = load_literal_row
row_of (Pair kind mode load offset rt2 rn rt) = pair_row
row_of (LoadStoreUnsigned size transfer imm12 rn rt) = load_store_unsigned_row
row_of (LoadStoreIndexed size transfer offset mode rn rt) = load_store_indexed_row
row_of (LoadStoreRegister size transfer rm extend scaled rn rt) = load_store_register_row
row_of Undefined = exception_return_row

-- the word of an instruction
unfoldable pub word_of : Instr → ℕ
word_of instr = join 32 (row_of instr).parts (fields_of instr)
