-- The A64 words of the base integer set (ARM DDI 0487, "A64 Instruction Set Encoding"), without exclusives,
-- load-acquire and store-release, atomics, unprivileged and non-temporal accesses, and CRC32. Each row has its parts from
-- bit 31 down; the first row that a word matches decides.
use Rattle.std.specs.Prelude.{◌≡◌, ◌≢◌, ℕ, ◌+◌, ◌*◌, ◌^◌, ◌<◌, Bool, true, false, not, ◌&&◌, ◌||◌, ◌==◌, nat_lt, if◌then◌else◌, List, [], ◌∷◌}
use Rattle.bao_types.specs.Bitmask.{is_reserved}
use Rattle.a64_decode.specs.declared.instr.Instr.{Instr}
use Rattle.a64_decode.specs.declared.instr.Instr.TheVariants.{Address, AddSubImmediate, LogicalImmediate, MoveWide, Bitfield, Extract, Branch, BranchConditional, CompareBranch, TestBranch, BranchRegister, ExceptionReturn, Exception, Hint, Barrier, MsrImmediate, System, SystemRegister, LogicalShifted, AddSubShifted, AddSubExtended, AddSubCarry, ConditionalCompare, ConditionalSelect, ThreeSources, TwoSources, OneSource, LoadLiteral, Pair, LoadStoreUnsigned, LoadStoreIndexed, LoadStoreRegister, Undefined}
use Rattle.a64_decode.specs.Pattern.{Row, first_reading}
use Rattle.a64_decode.specs.Pattern.Part.{Fixed, Free}
use Rattle.a64_decode.specs.Operands.{flag, reg, sign_extend, condition_of, shift_of, extend_of, logical_of, move_of, bitfield_of, branch_of, exception_of, barrier_of, pstate_field_of, operand_of, select_of, product_of, two_source_of, one_source_of, literal_of, pair_of, mode_of, index_of, size_of, transfer_of}

-- no word of the row is undefined
abbrev pub never : List ℕ → Bool
never fields = false

-- a number of the 32-bit form that is above 31
abbrev pub is_above_31 : ℕ → ℕ → Bool
is_above_31 sf number = sf == 0 && nat_lt 31 number

-- address: op immlo:2 10000 immhi:19 Rd
abbrev pub address : List ℕ → Instr
address (op ∷ immlo ∷ immhi ∷ rd ∷ []) = Address (flag op) (sign_extend 21 (immhi * 4 + immlo)) (reg rd)
address _ = Undefined

unfoldable pub address_row : Row
address_row = record {
  parts = Free 1 ∷ Free 2 ∷ Fixed 5 0b10000 ∷ Free 19 ∷ Free 5 ∷ [];
  undefined = never;
  variant = address;
}

-- add, subtract immediate: sf op S 100010 sh imm12 Rn Rd
abbrev pub add_sub_immediate : List ℕ → Instr
add_sub_immediate (sf ∷ op ∷ s ∷ sh ∷ imm12 ∷ rn ∷ rd ∷ []) =
    AddSubImmediate (flag sf) (flag op) (flag s) (flag sh) imm12 (reg rn) (reg rd)
add_sub_immediate _ = Undefined

unfoldable pub add_sub_immediate_row : Row
add_sub_immediate_row = record {
  parts = Free 1 ∷ Free 1 ∷ Free 1 ∷ Fixed 6 0b100010 ∷ Free 1 ∷ Free 12 ∷ Free 5 ∷ Free 5 ∷ [];
  undefined = never;
  variant = add_sub_immediate;
}

-- logical immediate: sf opc:2 100100 N immr:6 imms:6 Rn Rd
abbrev pub logical_immediate : List ℕ → Instr
logical_immediate (sf ∷ opc ∷ n ∷ immr ∷ imms ∷ rn ∷ rd ∷ []) =
    LogicalImmediate (flag sf) (logical_of opc) n immr imms (reg rn) (reg rd)
logical_immediate _ = Undefined

-- reserved bitmasks
abbrev pub logical_immediate_undefined : List ℕ → Bool
logical_immediate_undefined (sf ∷ opc ∷ n ∷ immr ∷ imms ∷ rn ∷ rd ∷ []) = is_reserved n imms (flag sf)
logical_immediate_undefined _ = true

unfoldable pub logical_immediate_row : Row
logical_immediate_row = record {
  parts = Free 1 ∷ Free 2 ∷ Fixed 6 0b100100 ∷ Free 1 ∷ Free 6 ∷ Free 6 ∷ Free 5 ∷ Free 5 ∷ [];
  undefined = logical_immediate_undefined;
  variant = logical_immediate;
}

-- move wide: sf opc:2 100101 hw:2 imm16 Rd
abbrev pub move_wide : List ℕ → Instr
move_wide (sf ∷ opc ∷ hw ∷ imm16 ∷ rd ∷ []) = MoveWide (flag sf) (move_of opc) hw imm16 (reg rd)
move_wide _ = Undefined

-- opc 1; a shift by 32 or 48 of the 32-bit form
abbrev pub move_wide_undefined : List ℕ → Bool
move_wide_undefined (sf ∷ opc ∷ hw ∷ imm16 ∷ rd ∷ []) = (opc == 1) || (sf == 0 && nat_lt 1 hw)
move_wide_undefined _ = true

unfoldable pub move_wide_row : Row
move_wide_row = record {
  parts = Free 1 ∷ Free 2 ∷ Fixed 6 0b100101 ∷ Free 2 ∷ Free 16 ∷ Free 5 ∷ [];
  undefined = move_wide_undefined;
  variant = move_wide;
}

-- bitfield: sf opc:2 100110 N immr:6 imms:6 Rn Rd
abbrev pub bitfield : List ℕ → Instr
bitfield (sf ∷ opc ∷ n ∷ immr ∷ imms ∷ rn ∷ rd ∷ []) = Bitfield (flag sf) (bitfield_of opc) immr imms (reg rn) (reg rd)
bitfield _ = Undefined

-- opc 3; N that isn't sf; numbers above 31 of the 32-bit form
abbrev pub bitfield_undefined : List ℕ → Bool
bitfield_undefined (sf ∷ opc ∷ n ∷ immr ∷ imms ∷ rn ∷ rd ∷ []) =
    (opc == 3) || not (n == sf) || is_above_31 sf immr || is_above_31 sf imms
bitfield_undefined _ = true

unfoldable pub bitfield_row : Row
bitfield_row = record {
  parts = Free 1 ∷ Free 2 ∷ Fixed 6 0b100110 ∷ Free 1 ∷ Free 6 ∷ Free 6 ∷ Free 5 ∷ Free 5 ∷ [];
  undefined = bitfield_undefined;
  variant = bitfield;
}

-- extract: sf 00 100111 N 0 Rm imms:6 Rn Rd
abbrev pub extract : List ℕ → Instr
extract (sf ∷ n ∷ rm ∷ imms ∷ rn ∷ rd ∷ []) = Extract (flag sf) (reg rm) imms (reg rn) (reg rd)
extract _ = Undefined

-- N that isn't sf; a number above 31 of the 32-bit form
abbrev pub extract_undefined : List ℕ → Bool
extract_undefined (sf ∷ n ∷ rm ∷ imms ∷ rn ∷ rd ∷ []) = not (n == sf) || is_above_31 sf imms
extract_undefined _ = true

unfoldable pub extract_row : Row
extract_row = record {
  parts = Free 1 ∷ Fixed 8 0b00100111 ∷ Free 1 ∷ Fixed 1 0 ∷ Free 5 ∷ Free 6 ∷ Free 5 ∷ Free 5 ∷ [];
  undefined = extract_undefined;
  variant = extract;
}

-- branch: op 00101 imm26
abbrev pub branch : List ℕ → Instr
branch (op ∷ imm26 ∷ []) = Branch (flag op) (sign_extend 26 imm26)
branch _ = Undefined

unfoldable pub branch_row : Row
branch_row = record {
  parts = Free 1 ∷ Fixed 5 0b00101 ∷ Free 26 ∷ [];
  undefined = never;
  variant = branch;
}

-- conditional: 01010100 imm19 0 cond:4
abbrev pub branch_conditional : List ℕ → Instr
branch_conditional (imm19 ∷ cond ∷ []) = BranchConditional (sign_extend 19 imm19) (condition_of cond)
branch_conditional _ = Undefined

unfoldable pub branch_conditional_row : Row
branch_conditional_row = record {
  parts = Fixed 8 0b01010100 ∷ Free 19 ∷ Fixed 1 0 ∷ Free 4 ∷ [];
  undefined = never;
  variant = branch_conditional;
}

-- compare and branch: sf 011010 op imm19 Rt
abbrev pub compare_branch : List ℕ → Instr
compare_branch (sf ∷ op ∷ imm19 ∷ rt ∷ []) = CompareBranch (flag sf) (flag op) (sign_extend 19 imm19) (reg rt)
compare_branch _ = Undefined

unfoldable pub compare_branch_row : Row
compare_branch_row = record {
  parts = Free 1 ∷ Fixed 6 0b011010 ∷ Free 1 ∷ Free 19 ∷ Free 5 ∷ [];
  undefined = never;
  variant = compare_branch;
}

-- test and branch: b5 011011 op b40:5 imm14 Rt
abbrev pub test_branch : List ℕ → Instr
test_branch (b5 ∷ op ∷ b40 ∷ imm14 ∷ rt ∷ []) = TestBranch (b5 * 32 + b40) (flag op) (sign_extend 14 imm14) (reg rt)
test_branch _ = Undefined

unfoldable pub test_branch_row : Row
test_branch_row = record {
  parts = Free 1 ∷ Fixed 6 0b011011 ∷ Free 1 ∷ Free 5 ∷ Free 14 ∷ Free 5 ∷ [];
  undefined = never;
  variant = test_branch;
}

-- register branch: 110101100 opc:2 11111 000000 Rn 00000
abbrev pub branch_register : List ℕ → Instr
branch_register (opc ∷ rn ∷ []) = BranchRegister (branch_of opc) (reg rn)
branch_register _ = Undefined

-- opc 3
abbrev pub branch_register_undefined : List ℕ → Bool
branch_register_undefined (opc ∷ rn ∷ []) = opc == 3
branch_register_undefined _ = true

unfoldable pub branch_register_row : Row
branch_register_row = record {
  parts = Fixed 9 0b110101100 ∷ Free 2 ∷ Fixed 11 0b11111000000 ∷ Free 5 ∷ Fixed 5 0 ∷ [];
  undefined = branch_register_undefined;
  variant = branch_register;
}

-- return: ERET
abbrev pub exception_return : List ℕ → Instr
exception_return fields = ExceptionReturn

unfoldable pub exception_return_row : Row
exception_return_row = record {
  parts = Fixed 32 0xD69F03E0 ∷ [];
  undefined = never;
  variant = exception_return;
}

-- exceptions: 1101010000 brk imm16 000 ll:2
abbrev pub exception : List ℕ → Instr
exception (brk ∷ imm16 ∷ ll ∷ []) = Exception (exception_of ll) imm16
exception _ = Undefined

-- ll is 0 in BRK and in no other
abbrev pub exception_undefined : List ℕ → Bool
exception_undefined (brk ∷ imm16 ∷ ll ∷ []) = if brk == 1 then not (ll == 0) else ll == 0
exception_undefined _ = true

unfoldable pub exception_row : Row
exception_row = record {
  parts = Fixed 10 0b1101010000 ∷ Free 1 ∷ Free 16 ∷ Fixed 3 0 ∷ Free 2 ∷ [];
  undefined = exception_undefined;
  variant = exception;
}

-- hints: 11010101000000110010 CRm:4 op2:3 11111
abbrev pub hint : List ℕ → Instr
hint (crm ∷ op2 ∷ []) = Hint crm op2
hint _ = Undefined

unfoldable pub hint_row : Row
hint_row = record {
  parts = Fixed 20 0b11010101000000110010 ∷ Free 4 ∷ Free 3 ∷ Fixed 5 0b11111 ∷ [];
  undefined = never;
  variant = hint;
}

-- barriers: 11010101000000110011 CRm:4 op2:3 11111
abbrev pub barrier : List ℕ → Instr
barrier (crm ∷ op2 ∷ []) = Barrier crm (barrier_of op2)
barrier _ = Undefined

-- op2 other than 2, 4, 5 and 6
abbrev pub barrier_undefined : List ℕ → Bool
barrier_undefined (crm ∷ op2 ∷ []) = not (op2 == 2 || op2 == 4 || op2 == 5 || op2 == 6)
barrier_undefined _ = true

unfoldable pub barrier_row : Row
barrier_row = record {
  parts = Fixed 20 0b11010101000000110011 ∷ Free 4 ∷ Free 3 ∷ Fixed 5 0b11111 ∷ [];
  undefined = barrier_undefined;
  variant = barrier;
}

-- MSR immediate: 1101010100000 op1:3 0100 CRm:4 op2:3 11111
abbrev pub msr_immediate : List ℕ → Instr
msr_immediate (op1 ∷ crm ∷ op2 ∷ []) = MsrImmediate (pstate_field_of op2) crm
msr_immediate _ = Undefined

-- all but SPSel (op1 0, op2 5), DAIFSet (op1 3, op2 6) and DAIFClr (op1 3, op2 7)
abbrev pub msr_immediate_undefined : List ℕ → Bool
msr_immediate_undefined (op1 ∷ crm ∷ op2 ∷ []) =
    not ((op1 == 0 && op2 == 5) || (op1 == 3 && op2 == 6) || (op1 == 3 && op2 == 7))
msr_immediate_undefined _ = true

unfoldable pub msr_immediate_row : Row
msr_immediate_row = record {
  parts = Fixed 13 0b1101010100000 ∷ Free 3 ∷ Fixed 4 0b0100 ∷ Free 4 ∷ Free 3 ∷ Fixed 5 0b11111 ∷ [];
  undefined = msr_immediate_undefined;
  variant = msr_immediate;
}

-- SYS: 1101010100001 op1:3 CRn:4 CRm:4 op2:3 Rt
abbrev pub system : List ℕ → Instr
system (op1 ∷ crn ∷ crm ∷ op2 ∷ rt ∷ []) = System op1 crn crm op2 (reg rt)
system _ = Undefined

-- CRn other than 7 (caches) and 8 (TLBs); address translation, and DC ZVA
abbrev pub system_undefined : List ℕ → Bool
system_undefined (op1 ∷ crn ∷ crm ∷ op2 ∷ rt ∷ []) =
    not (crn == 7 || crn == 8)
    || (crn == 7 && crm == 8)
    || (op1 == 3 && crn == 7 && crm == 4 && op2 == 1)
system_undefined _ = true

unfoldable pub system_row : Row
system_row = record {
  parts = Fixed 13 0b1101010100001 ∷ Free 3 ∷ Free 4 ∷ Free 4 ∷ Free 3 ∷ Free 5 ∷ [];
  undefined = system_undefined;
  variant = system;
}

-- MSR, MRS: 1101010100 L 1 o0 op1:3 CRn:4 CRm:4 op2:3 Rt
abbrev pub system_register : List ℕ → Instr
system_register (l ∷ o0 ∷ op1 ∷ crn ∷ crm ∷ op2 ∷ rt ∷ []) =
    SystemRegister (flag l) (record { op0 = 2 + o0; op1 = op1; crn = crn; crm = crm; op2 = op2 }) (reg rt)
system_register _ = Undefined

unfoldable pub system_register_row : Row
system_register_row = record {
  parts = Fixed 10 0b1101010100 ∷ Free 1 ∷ Fixed 1 1 ∷ Free 1 ∷ Free 3 ∷ Free 4 ∷ Free 4 ∷ Free 3 ∷ Free 5 ∷ [];
  undefined = never;
  variant = system_register;
}

-- logical shifted: sf opc:2 01010 shift:2 N Rm imm6 Rn Rd
abbrev pub logical_shifted : List ℕ → Instr
logical_shifted (sf ∷ opc ∷ shift ∷ n ∷ rm ∷ imm6 ∷ rn ∷ rd ∷ []) =
    LogicalShifted (flag sf) (logical_of opc) (shift_of shift) (flag n) (reg rm) imm6 (reg rn) (reg rd)
logical_shifted _ = Undefined

-- a shift above 31 of the 32-bit form
abbrev pub logical_shifted_undefined : List ℕ → Bool
logical_shifted_undefined (sf ∷ opc ∷ shift ∷ n ∷ rm ∷ imm6 ∷ rn ∷ rd ∷ []) = is_above_31 sf imm6
logical_shifted_undefined _ = true

unfoldable pub logical_shifted_row : Row
logical_shifted_row = record {
  parts = Free 1 ∷ Free 2 ∷ Fixed 5 0b01010 ∷ Free 2 ∷ Free 1 ∷ Free 5 ∷ Free 6 ∷ Free 5 ∷ Free 5 ∷ [];
  undefined = logical_shifted_undefined;
  variant = logical_shifted;
}

-- add, subtract shifted: sf op S 01011 shift:2 0 Rm imm6 Rn Rd
abbrev pub add_sub_shifted : List ℕ → Instr
add_sub_shifted (sf ∷ op ∷ s ∷ shift ∷ rm ∷ imm6 ∷ rn ∷ rd ∷ []) =
    AddSubShifted (flag sf) (flag op) (flag s) (shift_of shift) (reg rm) imm6 (reg rn) (reg rd)
add_sub_shifted _ = Undefined

-- shift 3; a shift above 31 of the 32-bit form
abbrev pub add_sub_shifted_undefined : List ℕ → Bool
add_sub_shifted_undefined (sf ∷ op ∷ s ∷ shift ∷ rm ∷ imm6 ∷ rn ∷ rd ∷ []) = (shift == 3) || is_above_31 sf imm6
add_sub_shifted_undefined _ = true

unfoldable pub add_sub_shifted_row : Row
add_sub_shifted_row = record {
  parts = Free 1 ∷ Free 1 ∷ Free 1 ∷ Fixed 5 0b01011 ∷ Free 2 ∷ Fixed 1 0 ∷ Free 5 ∷ Free 6 ∷ Free 5 ∷ Free 5 ∷ [];
  undefined = add_sub_shifted_undefined;
  variant = add_sub_shifted;
}

-- add, subtract extended: sf op S 01011 00 1 Rm option:3 imm3 Rn Rd
abbrev pub add_sub_extended : List ℕ → Instr
add_sub_extended (sf ∷ op ∷ s ∷ rm ∷ option ∷ imm3 ∷ rn ∷ rd ∷ []) =
    AddSubExtended (flag sf) (flag op) (flag s) (reg rm) (extend_of option) imm3 (reg rn) (reg rd)
add_sub_extended _ = Undefined

-- a shift above 4
abbrev pub add_sub_extended_undefined : List ℕ → Bool
add_sub_extended_undefined (sf ∷ op ∷ s ∷ rm ∷ option ∷ imm3 ∷ rn ∷ rd ∷ []) = nat_lt 4 imm3
add_sub_extended_undefined _ = true

unfoldable pub add_sub_extended_row : Row
add_sub_extended_row = record {
  parts = Free 1 ∷ Free 1 ∷ Free 1 ∷ Fixed 8 0b01011001 ∷ Free 5 ∷ Free 3 ∷ Free 3 ∷ Free 5 ∷ Free 5 ∷ [];
  undefined = add_sub_extended_undefined;
  variant = add_sub_extended;
}

-- with carry: sf op S 11010000 Rm 000000 Rn Rd
abbrev pub add_sub_carry : List ℕ → Instr
add_sub_carry (sf ∷ op ∷ s ∷ rm ∷ rn ∷ rd ∷ []) = AddSubCarry (flag sf) (flag op) (flag s) (reg rm) (reg rn) (reg rd)
add_sub_carry _ = Undefined

unfoldable pub add_sub_carry_row : Row
add_sub_carry_row = record {
  parts = Free 1 ∷ Free 1 ∷ Free 1 ∷ Fixed 8 0b11010000 ∷ Free 5 ∷ Fixed 6 0 ∷ Free 5 ∷ Free 5 ∷ [];
  undefined = never;
  variant = add_sub_carry;
}

-- conditional compare: sf op 1 11010010 Rm or imm5, cond:4 i 0 Rn 0 nzcv:4
abbrev pub conditional_compare : List ℕ → Instr
conditional_compare (sf ∷ op ∷ bits ∷ cond ∷ i ∷ rn ∷ nzcv ∷ []) =
    ConditionalCompare (flag sf) (flag op) (operand_of i bits) (condition_of cond) (reg rn) nzcv
conditional_compare _ = Undefined

unfoldable pub conditional_compare_row : Row
conditional_compare_row = record {
  parts = Free 1 ∷ Free 1 ∷ Fixed 9 0b111010010 ∷ Free 5 ∷ Free 4 ∷ Free 1 ∷ Fixed 1 0 ∷ Free 5 ∷ Fixed 1 0 ∷ Free 4 ∷ [];
  undefined = never;
  variant = conditional_compare;
}

-- conditional select: sf op 0 11010100 Rm cond:4 0 o2 Rn Rd
abbrev pub conditional_select : List ℕ → Instr
conditional_select (sf ∷ op ∷ rm ∷ cond ∷ o2 ∷ rn ∷ rd ∷ []) =
    ConditionalSelect (flag sf) (select_of op o2) (reg rm) (condition_of cond) (reg rn) (reg rd)
conditional_select _ = Undefined

unfoldable pub conditional_select_row : Row
conditional_select_row = record {
  parts = Free 1 ∷ Free 1 ∷ Fixed 9 0b011010100 ∷ Free 5 ∷ Free 4 ∷ Fixed 1 0 ∷ Free 1 ∷ Free 5 ∷ Free 5 ∷ [];
  undefined = never;
  variant = conditional_select;
}

-- three sources: sf 00 11011 op31:3 Rm o0 Ra Rn Rd
abbrev pub three_sources : List ℕ → Instr
three_sources (sf ∷ op31 ∷ rm ∷ o0 ∷ ra ∷ rn ∷ rd ∷ []) =
    ThreeSources (flag sf) (product_of op31 o0) (reg rm) (reg ra) (reg rn) (reg rd)
three_sources _ = Undefined

-- op31 0 is of both forms; 1 and 5, and with o0 0 also 2 and 6, of the 64-bit form
abbrev pub three_sources_undefined : List ℕ → Bool
three_sources_undefined (sf ∷ op31 ∷ rm ∷ o0 ∷ ra ∷ rn ∷ rd ∷ []) =
    not (op31 == 0
    || (sf == 1 && (op31 == 1 || op31 == 5))
    || (sf == 1 && o0 == 0 && (op31 == 2 || op31 == 6)))
three_sources_undefined _ = true

unfoldable pub three_sources_row : Row
three_sources_row = record {
  parts = Free 1 ∷ Fixed 7 0b0011011 ∷ Free 3 ∷ Free 5 ∷ Free 1 ∷ Free 5 ∷ Free 5 ∷ Free 5 ∷ [];
  undefined = three_sources_undefined;
  variant = three_sources;
}

-- two sources: sf 00 11010110 Rm opcode:6 Rn Rd
abbrev pub two_sources : List ℕ → Instr
two_sources (sf ∷ rm ∷ opcode ∷ rn ∷ rd ∷ []) = TwoSources (flag sf) (two_source_of opcode) (reg rm) (reg rn) (reg rd)
two_sources _ = Undefined

-- opcode other than 2, 3 and 8 to 11
abbrev pub two_sources_undefined : List ℕ → Bool
two_sources_undefined (sf ∷ rm ∷ opcode ∷ rn ∷ rd ∷ []) =
    nat_lt opcode 2 || (nat_lt 3 opcode && nat_lt opcode 8) || nat_lt 11 opcode
two_sources_undefined _ = true

unfoldable pub two_sources_row : Row
two_sources_row = record {
  parts = Free 1 ∷ Fixed 10 0b0011010110 ∷ Free 5 ∷ Free 6 ∷ Free 5 ∷ Free 5 ∷ [];
  undefined = two_sources_undefined;
  variant = two_sources;
}

-- one source: sf 10 11010110 00000 opcode:6 Rn Rd
abbrev pub one_source : List ℕ → Instr
one_source (sf ∷ opcode ∷ rn ∷ rd ∷ []) = OneSource (flag sf) (one_source_of opcode) (reg rn) (reg rd)
one_source _ = Undefined

-- opcode above 5; the reversal of eight bytes of the 32-bit form
abbrev pub one_source_undefined : List ℕ → Bool
one_source_undefined (sf ∷ opcode ∷ rn ∷ rd ∷ []) = nat_lt 5 opcode || (sf == 0 && opcode == 3)
one_source_undefined _ = true

unfoldable pub one_source_row : Row
one_source_row = record {
  parts = Free 1 ∷ Fixed 15 0b101101011000000 ∷ Free 6 ∷ Free 5 ∷ Free 5 ∷ [];
  undefined = one_source_undefined;
  variant = one_source;
}

-- literal: opc:2 011000 imm19 Rt
abbrev pub load_literal : List ℕ → Instr
load_literal (opc ∷ imm19 ∷ rt ∷ []) = LoadLiteral (literal_of opc) (sign_extend 19 imm19) (reg rt)
load_literal _ = Undefined

unfoldable pub load_literal_row : Row
load_literal_row = record {
  parts = Free 2 ∷ Fixed 6 0b011000 ∷ Free 19 ∷ Free 5 ∷ [];
  undefined = never;
  variant = load_literal;
}

-- pair: opc:2 1010 mode:3 L imm7 Rt2 Rn Rt
abbrev pub pair : List ℕ → Instr
pair (opc ∷ mode ∷ l ∷ imm7 ∷ rt2 ∷ rn ∷ rt ∷ []) =
    Pair (pair_of opc) (mode_of mode) (flag l) (sign_extend 7 imm7) (reg rt2) (reg rn) (reg rt)
pair _ = Undefined

-- mode other than 1 to 3; opc 3, and opc 1 in a store; a load of one register twice; write-back to a register of the
-- pair, where it isn't SP
abbrev pub pair_undefined : List ℕ → Bool
pair_undefined (opc ∷ mode ∷ l ∷ imm7 ∷ rt2 ∷ rn ∷ rt ∷ []) =
    not (mode == 1 || mode == 2 || mode == 3)
    || (opc == 3)
    || (opc == 1 && l == 0)
    || (l == 1 && rt == rt2)
    || (not (mode == 2) && not (rn == 31) && (rn == rt || rn == rt2))
pair_undefined _ = true

unfoldable pub pair_row : Row
pair_row = record {
  parts = Free 2 ∷ Fixed 4 0b1010 ∷ Free 3 ∷ Free 1 ∷ Free 7 ∷ Free 5 ∷ Free 5 ∷ Free 5 ∷ [];
  undefined = pair_undefined;
  variant = pair;
}

-- a signed load to 32 bits of a word or a double word
abbrev pub is_no_transfer : ℕ → ℕ → Bool
is_no_transfer size opc = opc == 3 && nat_lt 1 size

-- unsigned offset: size:2 111001 opc:2 imm12 Rn Rt
abbrev pub load_store_unsigned : List ℕ → Instr
load_store_unsigned (size ∷ opc ∷ imm12 ∷ rn ∷ rt ∷ []) =
    LoadStoreUnsigned (size_of size) (transfer_of opc) imm12 (reg rn) (reg rt)
load_store_unsigned _ = Undefined

abbrev pub load_store_unsigned_undefined : List ℕ → Bool
load_store_unsigned_undefined (size ∷ opc ∷ imm12 ∷ rn ∷ rt ∷ []) = is_no_transfer size opc
load_store_unsigned_undefined _ = true

unfoldable pub load_store_unsigned_row : Row
load_store_unsigned_row = record {
  parts = Free 2 ∷ Fixed 6 0b111001 ∷ Free 2 ∷ Free 12 ∷ Free 5 ∷ Free 5 ∷ [];
  undefined = load_store_unsigned_undefined;
  variant = load_store_unsigned;
}

-- unscaled, post, pre: size:2 111000 opc:2 0 imm9 m:2 Rn Rt
abbrev pub load_store_indexed : List ℕ → Instr
load_store_indexed (size ∷ opc ∷ imm9 ∷ m ∷ rn ∷ rt ∷ []) =
    LoadStoreIndexed (size_of size) (transfer_of opc) (sign_extend 9 imm9) (index_of m) (reg rn) (reg rt)
load_store_indexed _ = Undefined

-- m 2; with write-back a prefetch, and a base that is the register, where it isn't SP
abbrev pub load_store_indexed_undefined : List ℕ → Bool
load_store_indexed_undefined (size ∷ opc ∷ imm9 ∷ m ∷ rn ∷ rt ∷ []) =
    is_no_transfer size opc
    || (m == 2)
    || (not (m == 0) && size == 3 && opc == 2)
    || (not (m == 0) && not (rn == 31) && rn == rt)
load_store_indexed_undefined _ = true

unfoldable pub load_store_indexed_row : Row
load_store_indexed_row = record {
  parts = Free 2 ∷ Fixed 6 0b111000 ∷ Free 2 ∷ Fixed 1 0 ∷ Free 9 ∷ Free 2 ∷ Free 5 ∷ Free 5 ∷ [];
  undefined = load_store_indexed_undefined;
  variant = load_store_indexed;
}

-- register offset: size:2 111000 opc:2 1 Rm option:3 S 10 Rn Rt
abbrev pub load_store_register : List ℕ → Instr
load_store_register (size ∷ opc ∷ rm ∷ option ∷ s ∷ rn ∷ rt ∷ []) =
    LoadStoreRegister (size_of size) (transfer_of opc) (reg rm) (extend_of option) (flag s) (reg rn) (reg rt)
load_store_register _ = Undefined

-- option other than UXTW, UXTX (LSL), SXTW and SXTX
abbrev pub load_store_register_undefined : List ℕ → Bool
load_store_register_undefined (size ∷ opc ∷ rm ∷ option ∷ s ∷ rn ∷ rt ∷ []) =
    is_no_transfer size opc || not (option == 2 || option == 3 || option == 6 || option == 7)
load_store_register_undefined _ = true

unfoldable pub load_store_register_row : Row
load_store_register_row = record {
  parts = Free 2 ∷ Fixed 6 0b111000 ∷ Free 2 ∷ Fixed 1 1 ∷ Free 5 ∷ Free 3 ∷ Free 1 ∷ Fixed 2 0b10 ∷ Free 5 ∷ Free 5 ∷ [];
  undefined = load_store_register_undefined;
  variant = load_store_register;
}

-- loads and stores
unfoldable pub load_store_rows : List Row
load_store_rows =
    load_literal_row ∷ pair_row ∷ load_store_unsigned_row ∷ load_store_indexed_row ∷ load_store_register_row ∷ []

-- from the selects and products on
unfoldable pub source_rows : List Row
source_rows =
    conditional_compare_row ∷ conditional_select_row ∷ three_sources_row ∷ two_sources_row ∷ one_source_row ∷ load_store_rows

-- from the shifted and extended registers on
unfoldable pub register_rows : List Row
register_rows = logical_shifted_row ∷ add_sub_shifted_row ∷ add_sub_extended_row ∷ add_sub_carry_row ∷ source_rows

-- from the system words on
unfoldable pub system_rows : List Row
system_rows =
    exception_return_row
    ∷ exception_row
    ∷ hint_row
    ∷ barrier_row
    ∷ msr_immediate_row
    ∷ system_row
    ∷ system_register_row
    ∷ register_rows

-- from the branches on
unfoldable pub branch_rows : List Row
branch_rows =
    branch_row ∷ branch_conditional_row ∷ compare_branch_row ∷ test_branch_row ∷ branch_register_row ∷ system_rows

-- the whole table
unfoldable pub table : List Row
table =
    address_row
    ∷ add_sub_immediate_row
    ∷ logical_immediate_row
    ∷ move_wide_row
    ∷ bitfield_row
    ∷ extract_row
    ∷ branch_rows

-- what a word decodes to
abbrev pub decoded : ℕ → Instr
decoded word = first_reading table word

-- two words that decode to the same variant, other than `Undefined`, are one
abbrev pub AreDistinct : Type 0
AreDistinct = (a b : ℕ) → a < 2 ^ 32 → b < 2 ^ 32 → decoded a ≡ decoded b → decoded a ≢ Undefined → a ≡ b
