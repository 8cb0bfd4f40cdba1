-- What the fields of a word stand for, by their encodings.
use Rattle.std.specs.Prelude.{ℕ, ◌+◌, ◌-◌, ◌%◌, ◌^◌, Bool, ◌==◌, nat_lt, if◌then◌else◌}
use Rattle.a64_decode.specs.declared.operand.Reg.{Reg}
use Rattle.a64_decode.specs.declared.operand.Condition.{Condition}
use Rattle.a64_decode.specs.declared.operand.Condition.TheVariants as condition
use Rattle.a64_decode.specs.declared.operand.Shift.{Shift}
use Rattle.a64_decode.specs.declared.operand.Shift.TheVariants.{Lsl, Lsr, Asr, Ror}
use Rattle.a64_decode.specs.declared.operand.Extend.{Extend}
use Rattle.a64_decode.specs.declared.operand.Extend.TheVariants.{Uxtb, Uxth, Uxtw, Uxtx, Sxtb, Sxth, Sxtw, Sxtx}
use Rattle.a64_decode.specs.declared.operand.LogicalKind.{LogicalKind}
use Rattle.a64_decode.specs.declared.operand.LogicalKind.TheVariants.{And, Orr, Eor, Ands}
use Rattle.a64_decode.specs.declared.operand.MoveKind.{MoveKind}
use Rattle.a64_decode.specs.declared.operand.MoveKind.TheVariants.{Movn, Movz, Movk}
use Rattle.a64_decode.specs.declared.operand.BitfieldKind.{BitfieldKind}
use Rattle.a64_decode.specs.declared.operand.BitfieldKind.TheVariants.{Sbfm, Bfm, Ubfm}
use Rattle.a64_decode.specs.declared.operand.BranchKind.{BranchKind}
use Rattle.a64_decode.specs.declared.operand.BranchKind.TheVariants.{Br, Blr, Ret}
use Rattle.a64_decode.specs.declared.operand.ExceptionKind.{ExceptionKind}
use Rattle.a64_decode.specs.declared.operand.ExceptionKind.TheVariants.{Svc, Hvc, Smc, Brk}
use Rattle.a64_decode.specs.declared.operand.BarrierKind.{BarrierKind}
use Rattle.a64_decode.specs.declared.operand.BarrierKind.TheVariants.{Clrex, Dsb, Dmb, Isb}
use Rattle.a64_decode.specs.declared.operand.PstateField.{PstateField}
use Rattle.a64_decode.specs.declared.operand.PstateField.TheVariants.{SpSel, DaifSet, DaifClr}
use Rattle.a64_decode.specs.declared.operand.Operand.{Operand}
use Rattle.a64_decode.specs.declared.operand.Operand.TheVariants as operand
use Rattle.a64_decode.specs.declared.operand.SelectKind.{SelectKind}
use Rattle.a64_decode.specs.declared.operand.SelectKind.TheVariants.{Csel, Csinc, Csinv, Csneg}
use Rattle.a64_decode.specs.declared.operand.ProductKind.{ProductKind}
use Rattle.a64_decode.specs.declared.operand.ProductKind.TheVariants.{Madd, Msub, Smaddl, Smsubl, Smulh, Umaddl, Umsubl, Umulh}
use Rattle.a64_decode.specs.declared.operand.TwoSourceKind.{TwoSourceKind}
use Rattle.a64_decode.specs.declared.operand.TwoSourceKind.TheVariants.{Udiv, Sdiv, Lslv, Lsrv, Asrv, Rorv}
use Rattle.a64_decode.specs.declared.operand.OneSourceKind.{OneSourceKind}
use Rattle.a64_decode.specs.declared.operand.OneSourceKind.TheVariants.{Rbit, Rev16, Rev32, Rev64, Clz, Cls}
use Rattle.a64_decode.specs.declared.operand.LiteralKind.{LiteralKind}
use Rattle.a64_decode.specs.declared.operand.LiteralKind.TheVariants as literal
use Rattle.a64_decode.specs.declared.operand.PairKind.{PairKind}
use Rattle.a64_decode.specs.declared.operand.PairKind.TheVariants as pair
use Rattle.a64_decode.specs.declared.operand.IndexMode.{IndexMode}
use Rattle.a64_decode.specs.declared.operand.IndexMode.TheVariants.{Post, Offset, Pre}
use Rattle.a64_decode.specs.declared.operand.Size.{Size}
use Rattle.a64_decode.specs.declared.operand.Size.TheVariants as size
use Rattle.a64_decode.specs.declared.operand.Transfer.{Transfer}
use Rattle.a64_decode.specs.declared.operand.Transfer.TheVariants.{Store, Load, LoadSigned, LoadSignedWord}

-- a field of one bit
abbrev pub flag : ℕ → Bool
flag bit = bit == 1

abbrev pub reg : ℕ → Reg
reg number = record { 0 = number }

-- a number of this many bits, sign-extended to 64 bits, in two's complement
abbrev pub sign_extend : ℕ → ℕ → ℕ
sign_extend width value = if nat_lt value (2 ^ (width - 1)) then value else value + (2 ^ 64 - 2 ^ width)

-- the lowest 8, 16, 32 or 64 bits, with zeros or with copies of the highest of them above
abbrev pub extended : Extend → ℕ → ℕ
extended Uxtb value = value % 2 ^ 8
extended Uxth value = value % 2 ^ 16
extended Uxtw value = value % 2 ^ 32
extended Uxtx value = value
extended Sxtb value = sign_extend 8 (value % 2 ^ 8)
extended Sxth value = sign_extend 16 (value % 2 ^ 16)
extended Sxtw value = sign_extend 32 (value % 2 ^ 32)
extended Sxtx value = value

-- what a register is after a load of this many bits: with zeros above, or with their sign in a register of 64 or 32 bits
abbrev pub loaded : Bool → Bool → ℕ → ℕ → ℕ
loaded signed wide width element =
    if signed then if wide then sign_extend width element else sign_extend width element % 2 ^ 32
    else element

abbrev pub condition_of : ℕ → Condition
condition_of cond =
    if cond == 0 then condition.Eq
    else if cond == 1 then condition.Ne
    else if cond == 2 then condition.Cs
    else if cond == 3 then condition.Cc
    else if cond == 4 then condition.Mi
    else if cond == 5 then condition.Pl
    else if cond == 6 then condition.Vs
    else if cond == 7 then condition.Vc
    else if cond == 8 then condition.Hi
    else if cond == 9 then condition.Ls
    else if cond == 10 then condition.Ge
    else if cond == 11 then condition.Lt
    else if cond == 12 then condition.Gt
    else if cond == 13 then condition.Le
    else if cond == 14 then condition.Al
    else condition.Nv

abbrev pub shift_of : ℕ → Shift
shift_of shift = if shift == 0 then Lsl else if shift == 1 then Lsr else if shift == 2 then Asr else Ror

abbrev pub extend_of : ℕ → Extend
extend_of option =
    if option == 0 then Uxtb
    else if option == 1 then Uxth
    else if option == 2 then Uxtw
    else if option == 3 then Uxtx
    else if option == 4 then Sxtb
    else if option == 5 then Sxth
    else if option == 6 then Sxtw
    else Sxtx

abbrev pub logical_of : ℕ → LogicalKind
logical_of opc = if opc == 0 then And else if opc == 1 then Orr else if opc == 2 then Eor else Ands

abbrev pub move_of : ℕ → MoveKind
move_of opc = if opc == 0 then Movn else if opc == 2 then Movz else Movk

abbrev pub bitfield_of : ℕ → BitfieldKind
bitfield_of opc = if opc == 0 then Sbfm else if opc == 1 then Bfm else Ubfm

abbrev pub branch_of : ℕ → BranchKind
branch_of opc = if opc == 0 then Br else if opc == 1 then Blr else Ret

-- the last two bits of a call, which are 0 in BRK
abbrev pub exception_of : ℕ → ExceptionKind
exception_of ll = if ll == 1 then Svc else if ll == 2 then Hvc else if ll == 3 then Smc else Brk

abbrev pub barrier_of : ℕ → BarrierKind
barrier_of op2 = if op2 == 2 then Clrex else if op2 == 4 then Dsb else if op2 == 5 then Dmb else Isb

abbrev pub pstate_field_of : ℕ → PstateField
pstate_field_of op2 = if op2 == 5 then SpSel else if op2 == 6 then DaifSet else DaifClr

-- bit i says whether the five bits are a number or a register
abbrev pub operand_of : ℕ → ℕ → Operand
operand_of i bits = if i == 1 then operand.Immediate bits else operand.Register (reg bits)

abbrev pub select_of : ℕ → ℕ → SelectKind
select_of op o2 =
    if op == 0 then if o2 == 0 then Csel else Csinc
    else if o2 == 0 then Csinv else Csneg

abbrev pub product_of : ℕ → ℕ → ProductKind
product_of op31 o0 =
    if op31 == 0 then if o0 == 0 then Madd else Msub
    else if op31 == 1 then if o0 == 0 then Smaddl else Smsubl
    else if op31 == 2 then Smulh
    else if op31 == 5 then if o0 == 0 then Umaddl else Umsubl
    else Umulh

abbrev pub two_source_of : ℕ → TwoSourceKind
two_source_of opcode =
    if opcode == 2 then Udiv
    else if opcode == 3 then Sdiv
    else if opcode == 8 then Lslv
    else if opcode == 9 then Lsrv
    else if opcode == 10 then Asrv
    else Rorv

abbrev pub one_source_of : ℕ → OneSourceKind
one_source_of opcode =
    if opcode == 0 then Rbit
    else if opcode == 1 then Rev16
    else if opcode == 2 then Rev32
    else if opcode == 3 then Rev64
    else if opcode == 4 then Clz
    else Cls

abbrev pub literal_of : ℕ → LiteralKind
literal_of opc =
    if opc == 0 then literal.Word
    else if opc == 1 then literal.Double
    else if opc == 2 then literal.SignedWord
    else literal.Prefetch

abbrev pub pair_of : ℕ → PairKind
pair_of opc = if opc == 0 then pair.Word else if opc == 1 then pair.SignedWord else pair.Double

-- a pair's mode
abbrev pub mode_of : ℕ → IndexMode
mode_of mode = if mode == 1 then Post else if mode == 2 then Offset else Pre

-- bits 11 and 10 of a load or store at a 9-bit offset
abbrev pub index_of : ℕ → IndexMode
index_of m = if m == 0 then Offset else if m == 1 then Post else Pre

abbrev pub size_of : ℕ → Size
size_of bits =
    if bits == 0 then size.Byte
    else if bits == 1 then size.Half
    else if bits == 2 then size.Word
    else size.Double

abbrev pub transfer_of : ℕ → Transfer
transfer_of opc = if opc == 0 then Store else if opc == 1 then Load else if opc == 2 then LoadSigned else LoadSignedWord
