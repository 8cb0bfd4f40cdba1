-- Each instruction of the line forms has a word: the one that its fields make decodes to it.
use Rattle.std.proofs.Common.{◌≡◌, ◌≢◌, ℕ, ◌+◌, ◌-◌, ◌*◌, ◌%◌, ◌^◌, ◌<◌, ◌≤◌, Bool, true, false, not, ◌&&◌, ◌||◌, [], ◌∷◌, take, refl, subst, arith, rules, lit<, inl, inr, eqb}
use Rattle.std.specs.Prelude.{IsTrue, IsFalse, Some, if◌then◌else◌, slice_get, nat_lt}
use Rattle.std.specs.List.{list_all}
use Rattle.std.proofs.lemmas.Bool.{ltb-true, ltb-false}
use Rattle.std.proofs.lemmas.Bool.Decides.{nat_tests}
use Rattle.bao_types.specs.declared.sys_id.SysId.{SysId}
use Rattle.a64_decode.specs.declared.instr.Instr.{Instr}
use Rattle.a64_decode.specs.declared.instr.Instr.TheVariants.{AddSubImmediate, MoveWide, Branch, BranchConditional, CompareBranch, BranchRegister, ExceptionReturn, Exception, Hint, SystemRegister, LogicalShifted, AddSubShifted, LoadStoreUnsigned, Undefined}
use Rattle.a64_decode.specs.declared.operand.Reg.{Reg}
use Rattle.a64_decode.specs.declared.operand.Condition.{Condition}
use Rattle.a64_decode.specs.declared.operand.Condition.TheVariants as condition
use Rattle.a64_decode.specs.declared.operand.Shift.{Shift}
use Rattle.a64_decode.specs.declared.operand.Shift.TheVariants.{Lsl, Lsr, Asr, Ror}
use Rattle.a64_decode.specs.declared.operand.LogicalKind.{LogicalKind}
use Rattle.a64_decode.specs.declared.operand.LogicalKind.TheVariants.{And, Orr, Eor, Ands}
use Rattle.a64_decode.specs.declared.operand.MoveKind.{MoveKind}
use Rattle.a64_decode.specs.declared.operand.MoveKind.TheVariants.{Movn, Movz, Movk}
use Rattle.a64_decode.specs.declared.operand.BranchKind.{BranchKind}
use Rattle.a64_decode.specs.declared.operand.BranchKind.TheVariants.{Br, Blr, Ret}
use Rattle.a64_decode.specs.declared.operand.ExceptionKind.{ExceptionKind}
use Rattle.a64_decode.specs.declared.operand.ExceptionKind.TheVariants.{Svc, Hvc, Smc, Brk}
use Rattle.a64_decode.specs.declared.operand.Size.{Size}
use Rattle.a64_decode.specs.declared.operand.Size.TheVariants as size
use Rattle.a64_decode.specs.declared.operand.Transfer.{Transfer}
use Rattle.a64_decode.specs.declared.operand.Transfer.TheVariants as transfer
use Rattle.a64_decode.specs.Pattern.{Row}
use Rattle.a64_decode.specs.Operands.{flag, sign_extend, condition_of, shift_of, logical_of, move_of, exception_of, size_of, transfer_of}
use Rattle.a64_decode.specs.Codes.{bit, condition_number, shift_number, logical_number, move_number, branch_number, transfer_number, exception_brk, exception_ll, unsigned_of}
use Rattle.a64_decode.specs.Lawful.{IsLawful, IsSigned, is_rotation, has_no_transfer}
use Rattle.a64_decode.specs.Word.{join, fields_of, row_of, word_of}
use Rattle.a64_decode.specs.Table.{table, branch_rows, system_rows, register_rows, source_rows, load_store_rows, is_no_transfer, address_row, add_sub_immediate_row, logical_immediate_row, move_wide_row, bitfield_row, extract_row, branch_row, branch_conditional_row, compare_branch_row, test_branch_row, branch_register_row, exception_return_row, exception_row, hint_row, barrier_row, msr_immediate_row, system_row, system_register_row, logical_shifted_row, add_sub_shifted_row, add_sub_extended_row, add_sub_carry_row, conditional_compare_row, conditional_select_row, three_sources_row, two_sources_row, one_source_row, load_literal_row, pair_row, load_store_unsigned_row}
use Rattle.a64_decode.specs.Access.{scale_of}
use Rattle.a64_encode.specs.Encode.{IsWordOf, encoded}
use Rattle.a64_asm.specs.Source.{is_said}
use Rattle.a64_asm.proofs.Encodable.{fills, is_apart, IsReadAs, read_as}

-- the row stands at this place of the table, and has other bits than each row before it
pub record StandsAt (k : ℕ) (row : Row) : Type 0 where
  pub at : slice_get table k ≡ Some row
  pub others : list_all (is_apart row.parts) (take k table) ≡ true
  pub whole : fills 32 row.parts ≡ true

at_add_sub_immediate : StandsAt 1 add_sub_immediate_row
unfolding table address_row add_sub_immediate_row
at_add_sub_immediate = record { at = refl; others = refl; whole = refl }

at_move_wide : StandsAt 3 move_wide_row
unfolding table address_row add_sub_immediate_row logical_immediate_row move_wide_row
at_move_wide = record { at = refl; others = refl; whole = refl }

at_branch : StandsAt 6 branch_row
unfolding table branch_rows address_row add_sub_immediate_row logical_immediate_row move_wide_row bitfield_row extract_row branch_row
at_branch = record { at = refl; others = refl; whole = refl }

at_branch_conditional : StandsAt 7 branch_conditional_row
unfolding table branch_rows address_row add_sub_immediate_row logical_immediate_row move_wide_row bitfield_row extract_row branch_row branch_conditional_row
at_branch_conditional = record { at = refl; others = refl; whole = refl }

at_compare_branch : StandsAt 8 compare_branch_row
unfolding table branch_rows address_row add_sub_immediate_row logical_immediate_row move_wide_row bitfield_row extract_row branch_row branch_conditional_row compare_branch_row
at_compare_branch = record { at = refl; others = refl; whole = refl }

at_branch_register : StandsAt 10 branch_register_row
unfolding table branch_rows address_row add_sub_immediate_row logical_immediate_row move_wide_row bitfield_row extract_row branch_row branch_conditional_row compare_branch_row test_branch_row branch_register_row
at_branch_register = record { at = refl; others = refl; whole = refl }

at_exception_return : StandsAt 11 exception_return_row
unfolding table branch_rows system_rows address_row add_sub_immediate_row logical_immediate_row move_wide_row bitfield_row extract_row branch_row branch_conditional_row compare_branch_row test_branch_row branch_register_row exception_return_row
at_exception_return = record { at = refl; others = refl; whole = refl }

at_exception : StandsAt 12 exception_row
unfolding table branch_rows system_rows address_row add_sub_immediate_row logical_immediate_row move_wide_row bitfield_row extract_row branch_row branch_conditional_row compare_branch_row test_branch_row branch_register_row exception_return_row exception_row
at_exception = record { at = refl; others = refl; whole = refl }

at_hint : StandsAt 13 hint_row
unfolding table branch_rows system_rows address_row add_sub_immediate_row logical_immediate_row move_wide_row bitfield_row extract_row branch_row branch_conditional_row compare_branch_row test_branch_row branch_register_row exception_return_row exception_row hint_row
at_hint = record { at = refl; others = refl; whole = refl }

at_system_register : StandsAt 17 system_register_row
unfolding table branch_rows system_rows address_row add_sub_immediate_row logical_immediate_row move_wide_row bitfield_row extract_row branch_row branch_conditional_row compare_branch_row test_branch_row branch_register_row exception_return_row exception_row hint_row barrier_row msr_immediate_row system_row system_register_row
at_system_register = record { at = refl; others = refl; whole = refl }

at_logical_shifted : StandsAt 18 logical_shifted_row
unfolding table branch_rows system_rows register_rows address_row add_sub_immediate_row logical_immediate_row move_wide_row bitfield_row extract_row branch_row branch_conditional_row compare_branch_row test_branch_row branch_register_row exception_return_row exception_row hint_row barrier_row msr_immediate_row system_row system_register_row logical_shifted_row
at_logical_shifted = record { at = refl; others = refl; whole = refl }

at_add_sub_shifted : StandsAt 19 add_sub_shifted_row
unfolding table branch_rows system_rows register_rows address_row add_sub_immediate_row logical_immediate_row move_wide_row bitfield_row extract_row branch_row branch_conditional_row compare_branch_row test_branch_row branch_register_row exception_return_row exception_row hint_row barrier_row msr_immediate_row system_row system_register_row logical_shifted_row add_sub_shifted_row
at_add_sub_shifted = record { at = refl; others = refl; whole = refl }

at_load_store_unsigned : StandsAt 29 load_store_unsigned_row
unfolding table branch_rows system_rows register_rows source_rows load_store_rows address_row add_sub_immediate_row logical_immediate_row move_wide_row bitfield_row extract_row branch_row branch_conditional_row compare_branch_row test_branch_row branch_register_row exception_return_row exception_row hint_row barrier_row msr_immediate_row system_row system_register_row logical_shifted_row add_sub_shifted_row add_sub_extended_row add_sub_carry_row conditional_compare_row conditional_select_row three_sources_row two_sources_row one_source_row load_literal_row pair_row load_store_unsigned_row
at_load_store_unsigned = record { at = refl; others = refl; whole = refl }

-- the codes of fields are read as what they stand for, and fit
flag-bit : (b : Bool) → flag (bit b) ≡ b
unfolding bit
flag-bit true = refl
flag-bit false = refl

bit_low : (b : Bool) → bit b < 2 ^ 1
unfolding bit
bit_low true = lit< tt
bit_low false = lit< tt

move_of-number : (kind : MoveKind) → move_of (move_number kind) ≡ kind
unfolding move_number
move_of-number Movn = refl
move_of-number Movz = refl
move_of-number Movk = refl

move_low : (kind : MoveKind) → move_number kind < 2 ^ 2
unfolding move_number
move_low Movn = lit< tt
move_low Movz = lit< tt
move_low Movk = lit< tt

hw_low : (wide : Bool) (hw : ℕ) → 16 * hw < (if wide then 64 else 32) → hw < 2 ^ 2
hw_low true hw low = omega arith
hw_low false hw low = omega arith

not_above_1 : (hw : ℕ) → hw < 2 → nat_lt 1 hw ≡ false
not_above_1 hw low = grind (arith, nat_tests)

move_defined : (wide : Bool) (kind : MoveKind) (hw : ℕ) → 16 * hw < (if wide then 64 else 32)
    → (eqb (move_number kind) 1 || (eqb (bit wide) 0 && nat_lt 1 hw)) ≡ false
unfolding bit move_number
move_defined true Movn hw low = refl
move_defined true Movz hw low = refl
move_defined true Movk hw low = refl
move_defined false Movn hw low = not_above_1 hw (omega arith)
move_defined false Movz hw low = not_above_1 hw (omega arith)
move_defined false Movk hw low = not_above_1 hw (omega arith)

word-move : (wide : Bool) (kind : MoveKind) (hw imm16 : ℕ) (rd : Reg) → IsLawful (MoveWide wide kind hw imm16 rd)
    → IsReadAs (word_of (MoveWide wide kind hw imm16 rd)) table (MoveWide wide kind hw imm16 rd)
unfolding word_of fields_of row_of move_wide_row
word-move wide kind hw imm16 rd lawful =
    read_as 3 table move_wide_row (bit wide ∷ move_number kind ∷ hw ∷ imm16 ∷ rd.0 ∷ []) (MoveWide wide kind hw imm16 rd)
    at_move_wide.at at_move_wide.others at_move_wide.whole
    (bit_low wide, (move_low kind, (lit< tt, (hw_low wide hw lawful.0, (lawful.1, (lawful.2, tt))))))
    (move_defined wide kind hw lawful.0)
    (rw (flag-bit wide, move_of-number kind) refl)

word-add : (wide subtract flags shifted : Bool) (imm12 : ℕ) (rn rd : Reg) → IsLawful (AddSubImmediate wide subtract flags shifted imm12 rn rd)
    → IsReadAs (word_of (AddSubImmediate wide subtract flags shifted imm12 rn rd)) table (AddSubImmediate wide subtract flags shifted imm12 rn rd)
unfolding word_of fields_of row_of add_sub_immediate_row
word-add wide subtract flags shifted imm12 rn rd lawful =
    read_as 1 table add_sub_immediate_row (bit wide ∷ bit subtract ∷ bit flags ∷ bit shifted ∷ imm12 ∷ rn.0 ∷ rd.0 ∷ [])
    (AddSubImmediate wide subtract flags shifted imm12 rn rd) at_add_sub_immediate.at at_add_sub_immediate.others at_add_sub_immediate.whole
    (bit_low wide, (bit_low subtract, (bit_low flags, (lit< tt, (bit_low shifted, (lawful.0, (lawful.1, (lawful.2, tt))))))))
    refl
    (rw (flag-bit wide, flag-bit subtract, flag-bit flags, flag-bit shifted) refl)

-- a number that is sign-extended, by its low bits
extended_is : (width value offset : ℕ) (b : Bool) → nat_lt value (2 ^ (width - 1)) ≡ b
    → (value < 2 ^ (width - 1) → value ≡ offset) → (2 ^ (width - 1) ≤ value → value + (2 ^ 64 - 2 ^ width) ≡ offset)
    → (if b then value else value + (2 ^ 64 - 2 ^ width)) ≡ offset
extended_is width value offset true e low high = low (ltb-true value (2 ^ (width - 1)) e)
extended_is width value offset false e low high = high (ltb-false value (2 ^ (width - 1)) e)

extend-26 : (offset : ℕ) → IsSigned 26 offset → sign_extend 26 (unsigned_of 33554432 offset) ≡ offset
unfolding unsigned_of
extend-26 offset (inl low) =
    extended_is 26 (offset % 67108864) offset _ refl (λ l. omega arith) (λ h. omega arith)
extend-26 offset (inr high) =
    extended_is 26 (offset % 67108864) offset _ refl (λ l. omega arith) (λ h. omega arith)

extend-19 : (offset : ℕ) → IsSigned 19 offset → sign_extend 19 (unsigned_of 262144 offset) ≡ offset
unfolding unsigned_of
extend-19 offset (inl low) =
    extended_is 19 (offset % 524288) offset _ refl (λ l. omega arith) (λ h. omega arith)
extend-19 offset (inr high) =
    extended_is 19 (offset % 524288) offset _ refl (λ l. omega arith) (λ h. omega arith)

low-26 : (offset : ℕ) → unsigned_of 33554432 offset < 2 ^ 26
unfolding unsigned_of
low-26 offset = omega arith

low-19 : (offset : ℕ) → unsigned_of 262144 offset < 2 ^ 19
unfolding unsigned_of
low-19 offset = omega arith

word-branch : (link : Bool) (offset : ℕ) → IsSigned 26 offset → IsReadAs (word_of (Branch link offset)) table (Branch link offset)
unfolding word_of fields_of row_of branch_row
word-branch link offset signed =
    read_as 6 table branch_row (bit link ∷ unsigned_of 33554432 offset ∷ []) (Branch link offset)
    at_branch.at at_branch.others at_branch.whole
    (bit_low link, (lit< tt, (low-26 offset, tt)))
    refl
    (rw (flag-bit link, extend-26 offset signed) refl)

condition_of-number : (cond : Condition) → condition_of (condition_number cond) ≡ cond
unfolding condition_number
condition_of-number condition.Eq = refl
condition_of-number condition.Ne = refl
condition_of-number condition.Cs = refl
condition_of-number condition.Cc = refl
condition_of-number condition.Mi = refl
condition_of-number condition.Pl = refl
condition_of-number condition.Vs = refl
condition_of-number condition.Vc = refl
condition_of-number condition.Hi = refl
condition_of-number condition.Ls = refl
condition_of-number condition.Ge = refl
condition_of-number condition.Lt = refl
condition_of-number condition.Gt = refl
condition_of-number condition.Le = refl
condition_of-number condition.Al = refl
condition_of-number condition.Nv = refl

condition_low : (cond : Condition) → condition_number cond < 2 ^ 4
unfolding condition_number
condition_low condition.Eq = lit< tt
condition_low condition.Ne = lit< tt
condition_low condition.Cs = lit< tt
condition_low condition.Cc = lit< tt
condition_low condition.Mi = lit< tt
condition_low condition.Pl = lit< tt
condition_low condition.Vs = lit< tt
condition_low condition.Vc = lit< tt
condition_low condition.Hi = lit< tt
condition_low condition.Ls = lit< tt
condition_low condition.Ge = lit< tt
condition_low condition.Lt = lit< tt
condition_low condition.Gt = lit< tt
condition_low condition.Le = lit< tt
condition_low condition.Al = lit< tt
condition_low condition.Nv = lit< tt

word-condition : (offset : ℕ) (cond : Condition) → IsSigned 19 offset
    → IsReadAs (word_of (BranchConditional offset cond)) table (BranchConditional offset cond)
unfolding word_of fields_of row_of branch_conditional_row
word-condition offset cond signed =
    read_as 7 table branch_conditional_row (unsigned_of 262144 offset ∷ condition_number cond ∷ []) (BranchConditional offset cond)
    at_branch_conditional.at at_branch_conditional.others at_branch_conditional.whole
    (lit< tt, (low-19 offset, (lit< tt, (condition_low cond, tt))))
    refl
    (rw (extend-19 offset signed, condition_of-number cond) refl)

word-compare : (wide nonzero : Bool) (offset : ℕ) (rt : Reg) → IsLawful (CompareBranch wide nonzero offset rt)
    → IsReadAs (word_of (CompareBranch wide nonzero offset rt)) table (CompareBranch wide nonzero offset rt)
unfolding word_of fields_of row_of compare_branch_row
word-compare wide nonzero offset rt lawful =
    read_as 8 table compare_branch_row (bit wide ∷ bit nonzero ∷ unsigned_of 262144 offset ∷ rt.0 ∷ []) (CompareBranch wide nonzero offset rt)
    at_compare_branch.at at_compare_branch.others at_compare_branch.whole
    (bit_low wide, (lit< tt, (bit_low nonzero, (low-19 offset, (lawful.1, tt)))))
    refl
    (rw (flag-bit wide, flag-bit nonzero, extend-19 offset lawful.0) refl)

word-to_register : (kind : BranchKind) (rn : Reg) → rn.0 < 32 → IsReadAs (word_of (BranchRegister kind rn)) table (BranchRegister kind rn)
unfolding word_of fields_of row_of branch_register_row branch_number
word-to_register Br rn low =
    read_as 10 table branch_register_row (0 ∷ rn.0 ∷ []) (BranchRegister Br rn)
    at_branch_register.at at_branch_register.others at_branch_register.whole
    (lit< tt, (lit< tt, (lit< tt, (low, (lit< tt, tt))))) refl refl
word-to_register Blr rn low =
    read_as 10 table branch_register_row (1 ∷ rn.0 ∷ []) (BranchRegister Blr rn)
    at_branch_register.at at_branch_register.others at_branch_register.whole
    (lit< tt, (lit< tt, (lit< tt, (low, (lit< tt, tt))))) refl refl
word-to_register Ret rn low =
    read_as 10 table branch_register_row (2 ∷ rn.0 ∷ []) (BranchRegister Ret rn)
    at_branch_register.at at_branch_register.others at_branch_register.whole
    (lit< tt, (lit< tt, (lit< tt, (low, (lit< tt, tt))))) refl refl

word-return : IsReadAs (word_of ExceptionReturn) table ExceptionReturn
unfolding word_of fields_of row_of exception_return_row
word-return =
    read_as 11 table exception_return_row [] ExceptionReturn
    at_exception_return.at at_exception_return.others at_exception_return.whole (lit< tt, tt) refl refl

module _ (brk ll imm16 : ℕ) (kind : ExceptionKind) (low : imm16 < 2 ^ 16) (brk_low : brk < 2 ^ 1) (ll_low : ll < 2 ^ 2)
    (defined : (if eqb brk 1 then not (eqb ll 0) else eqb ll 0) ≡ false) (is : exception_of ll ≡ kind) where
  exception_read : IsReadAs (join 32 exception_row.parts (brk ∷ imm16 ∷ ll ∷ [])) table (Exception kind imm16)
  unfolding exception_row
  exception_read =
      read_as 12 table exception_row (brk ∷ imm16 ∷ ll ∷ []) (Exception kind imm16)
      at_exception.at at_exception.others at_exception.whole
      (lit< tt, (brk_low, (low, (lit< tt, (ll_low, tt))))) defined (rw is refl)

word-exception : (kind : ExceptionKind) (imm16 : ℕ) → imm16 < 2 ^ 16 → IsReadAs (word_of (Exception kind imm16)) table (Exception kind imm16)
unfolding word_of fields_of row_of exception_brk exception_ll
word-exception Svc imm16 low = exception_read 0 1 imm16 Svc low (lit< tt) (lit< tt) refl refl
word-exception Hvc imm16 low = exception_read 0 2 imm16 Hvc low (lit< tt) (lit< tt) refl refl
word-exception Smc imm16 low = exception_read 0 3 imm16 Smc low (lit< tt) (lit< tt) refl refl
word-exception Brk imm16 low = exception_read 1 0 imm16 Brk low (lit< tt) (lit< tt) refl refl

word-hint : (crm op2 : ℕ) → (crm < 16) × (op2 < 8) → IsReadAs (word_of (Hint crm op2)) table (Hint crm op2)
unfolding word_of fields_of row_of hint_row
word-hint crm op2 lawful =
    read_as 13 table hint_row (crm ∷ op2 ∷ []) (Hint crm op2) at_hint.at at_hint.others at_hint.whole
    (lit< tt, (lawful.0, (lawful.1, (lit< tt, tt)))) refl refl

word-system : (read : Bool) (id : SysId) (rt : Reg) → IsLawful (SystemRegister read id rt)
    → IsReadAs (word_of (SystemRegister read id rt)) table (SystemRegister read id rt)
unfolding word_of fields_of row_of system_register_row
word-system read id rt lawful =
    let number : 2 + (id.op0 - 2) ≡ id.op0 = omega (arith, lawful.0.0) in
    read_as 17 table system_register_row (bit read ∷ (id.op0 - 2) ∷ id.op1 ∷ id.crn ∷ id.crm ∷ id.op2 ∷ rt.0 ∷ []) (SystemRegister read id rt)
    at_system_register.at at_system_register.others at_system_register.whole
    (lit< tt, (bit_low read, (lit< tt, (omega (arith, lawful.0.1), (lawful.0.2, (lawful.0.3, (lawful.0.4, (lawful.0.5, (lawful.1, tt)))))))))
    refl
    (rw (flag-bit read, number) refl)

logical_of-number : (kind : LogicalKind) → logical_of (logical_number kind) ≡ kind
unfolding logical_number
logical_of-number And = refl
logical_of-number Orr = refl
logical_of-number Eor = refl
logical_of-number Ands = refl

logical_low : (kind : LogicalKind) → logical_number kind < 2 ^ 2
unfolding logical_number
logical_low And = lit< tt
logical_low Orr = lit< tt
logical_low Eor = lit< tt
logical_low Ands = lit< tt

shift_of-number : (shift : Shift) → shift_of (shift_number shift) ≡ shift
unfolding shift_number
shift_of-number Lsl = refl
shift_of-number Lsr = refl
shift_of-number Asr = refl
shift_of-number Ror = refl

shift_low : (shift : Shift) → shift_number shift < 2 ^ 2
unfolding shift_number
shift_low Lsl = lit< tt
shift_low Lsr = lit< tt
shift_low Asr = lit< tt
shift_low Ror = lit< tt

amount_low : (wide : Bool) (amount : ℕ) → amount < (if wide then 64 else 32) → amount < 2 ^ 6
amount_low true amount low = omega arith
amount_low false amount low = omega arith

amount_defined : (wide : Bool) (amount : ℕ) → amount < (if wide then 64 else 32) → (eqb (bit wide) 0 && nat_lt 31 amount) ≡ false
unfolding bit
amount_defined true amount low = refl
amount_defined false amount low = grind (arith, nat_tests)

word-logical : (wide : Bool) (kind : LogicalKind) (shift : Shift) (invert : Bool) (rm : Reg) (amount : ℕ) (rn rd : Reg)
    → IsLawful (LogicalShifted wide kind shift invert rm amount rn rd)
    → IsReadAs (word_of (LogicalShifted wide kind shift invert rm amount rn rd)) table (LogicalShifted wide kind shift invert rm amount rn rd)
unfolding word_of fields_of row_of logical_shifted_row
word-logical wide kind shift invert rm amount rn rd lawful =
    read_as 18 table logical_shifted_row
    (bit wide ∷ logical_number kind ∷ shift_number shift ∷ bit invert ∷ rm.0 ∷ amount ∷ rn.0 ∷ rd.0 ∷ [])
    (LogicalShifted wide kind shift invert rm amount rn rd) at_logical_shifted.at at_logical_shifted.others at_logical_shifted.whole
    (bit_low wide, (logical_low kind, (lit< tt, (shift_low shift, (bit_low invert, (lawful.0, (amount_low wide amount lawful.1, (lawful.2, (lawful.3, tt)))))))))
    (amount_defined wide amount lawful.1)
    (rw (flag-bit wide, logical_of-number kind, shift_of-number shift, flag-bit invert) refl)

added_defined : (wide : Bool) (shift : Shift) (amount : ℕ) → IsFalse (is_rotation shift) → amount < (if wide then 64 else 32)
    → (eqb (shift_number shift) 3 || (eqb (bit wide) 0 && nat_lt 31 amount)) ≡ false
unfolding shift_number
added_defined wide Lsl amount plain low = amount_defined wide amount low
added_defined wide Lsr amount plain low = amount_defined wide amount low
added_defined wide Asr amount plain low = amount_defined wide amount low
added_defined wide Ror amount plain low = absurd (search rules)

word-added : (wide subtract flags : Bool) (shift : Shift) (rm : Reg) (amount : ℕ) (rn rd : Reg)
    → IsLawful (AddSubShifted wide subtract flags shift rm amount rn rd)
    → IsReadAs (word_of (AddSubShifted wide subtract flags shift rm amount rn rd)) table (AddSubShifted wide subtract flags shift rm amount rn rd)
unfolding word_of fields_of row_of add_sub_shifted_row
word-added wide subtract flags shift rm amount rn rd lawful =
    read_as 19 table add_sub_shifted_row
    (bit wide ∷ bit subtract ∷ bit flags ∷ shift_number shift ∷ rm.0 ∷ amount ∷ rn.0 ∷ rd.0 ∷ [])
    (AddSubShifted wide subtract flags shift rm amount rn rd) at_add_sub_shifted.at at_add_sub_shifted.others at_add_sub_shifted.whole
    (bit_low wide, (bit_low subtract, (bit_low flags, (lit< tt, (shift_low shift, (lit< tt, (lawful.1, (amount_low wide amount lawful.2, (lawful.3, (lawful.4, tt))))))))))
    (added_defined wide shift amount lawful.0 lawful.2)
    (rw (flag-bit wide, flag-bit subtract, flag-bit flags, shift_of-number shift) refl)

size_of-scale : (size : Size) → size_of (scale_of size) ≡ size
size_of-scale size.Byte = refl
size_of-scale size.Half = refl
size_of-scale size.Word = refl
size_of-scale size.Double = refl

scale_low : (size : Size) → scale_of size < 2 ^ 2
scale_low size.Byte = lit< tt
scale_low size.Half = lit< tt
scale_low size.Word = lit< tt
scale_low size.Double = lit< tt

transfer_of-number : (transfer : Transfer) → transfer_of (transfer_number transfer) ≡ transfer
unfolding transfer_number
transfer_of-number transfer.Store = refl
transfer_of-number transfer.Load = refl
transfer_of-number transfer.LoadSigned = refl
transfer_of-number transfer.LoadSignedWord = refl

transfer_low : (transfer : Transfer) → transfer_number transfer < 2 ^ 2
unfolding transfer_number
transfer_low transfer.Store = lit< tt
transfer_low transfer.Load = lit< tt
transfer_low transfer.LoadSigned = lit< tt
transfer_low transfer.LoadSignedWord = lit< tt

transfer_defined : (size : Size) (transfer : Transfer) → IsFalse (has_no_transfer size transfer)
    → is_no_transfer (scale_of size) (transfer_number transfer) ≡ false
unfolding transfer_number
transfer_defined size transfer.Store some = refl
transfer_defined size transfer.Load some = refl
transfer_defined size transfer.LoadSigned some = refl
transfer_defined size.Byte transfer.LoadSignedWord some = refl
transfer_defined size.Half transfer.LoadSignedWord some = refl
transfer_defined size.Word transfer.LoadSignedWord some = absurd (search rules)
transfer_defined size.Double transfer.LoadSignedWord some = absurd (search rules)

word-access : (size : Size) (transfer : Transfer) (imm12 : ℕ) (rn rt : Reg) → IsLawful (LoadStoreUnsigned size transfer imm12 rn rt)
    → IsReadAs (word_of (LoadStoreUnsigned size transfer imm12 rn rt)) table (LoadStoreUnsigned size transfer imm12 rn rt)
unfolding word_of fields_of row_of load_store_unsigned_row
word-access size transfer imm12 rn rt lawful =
    read_as 29 table load_store_unsigned_row (scale_of size ∷ transfer_number transfer ∷ imm12 ∷ rn.0 ∷ rt.0 ∷ [])
    (LoadStoreUnsigned size transfer imm12 rn rt) at_load_store_unsigned.at at_load_store_unsigned.others at_load_store_unsigned.whole
    (scale_low size, (lit< tt, (transfer_low transfer, (lawful.0, (lawful.1, (lawful.2, tt))))))
    (transfer_defined size transfer lawful.3)
    (rw (size_of-scale size, transfer_of-number transfer) refl)

-- each instruction that a line says
pub has_word : (instr : Instr) → IsLawful instr → IsTrue (is_said instr) → IsReadAs (word_of instr) table instr
has_word (MoveWide wide kind hw imm16 rd) lawful said = word-move wide kind hw imm16 rd lawful
has_word (AddSubImmediate wide subtract flags shifted imm12 rn rd) lawful said = word-add wide subtract flags shifted imm12 rn rd lawful
has_word (AddSubShifted wide subtract flags shift rm amount rn rd) lawful said = word-added wide subtract flags shift rm amount rn rd lawful
has_word (LogicalShifted wide kind shift invert rm amount rn rd) lawful said = word-logical wide kind shift invert rm amount rn rd lawful
has_word (LoadStoreUnsigned size transfer imm12 rn rt) lawful said = word-access size transfer imm12 rn rt lawful
has_word (Branch link offset) lawful said = word-branch link offset lawful
has_word (BranchConditional offset cond) lawful said = word-condition offset cond lawful
has_word (CompareBranch wide nonzero offset rt) lawful said = word-compare wide nonzero offset rt lawful
has_word (BranchRegister kind rn) lawful said = word-to_register kind rn lawful
has_word (Exception kind imm16) lawful said = word-exception kind imm16 lawful
has_word (SystemRegister read id rt) lawful said = word-system read id rt lawful
has_word ExceptionReturn lawful said = word-return
has_word (Hint crm op2) lawful said = word-hint crm op2 lawful
has_word _ lawful said = absurd (search rules)

-- `Undefined` is none of them
no_undefined : (instr : Instr) → IsTrue (is_said instr) → instr ≢ Undefined
no_undefined instr said undefined = let none : is_said Undefined ≡ true = subst (λ i. is_said i ≡ true) undefined said in cc

-- so it is encoded as that word
pub encodes : (instr : Instr) → IsLawful instr → IsTrue (is_said instr) → IsWordOf instr (encoded instr)
unfolding encoded
encodes instr lawful said = let facts = has_word instr lawful said in (facts.below, facts.read, no_undefined instr said)
