-- The encodings of operands, from what they stand for: the other direction of `Operands`. No public clause cites this module.
use Rattle.std.specs.Prelude.{ℕ, ◌*◌, ◌%◌, Bool, true, false}
use Rattle.a64_decode.specs.declared.operand.Condition.{Condition}
use Rattle.a64_decode.specs.declared.operand.Condition.TheVariants as condition
use Rattle.a64_decode.specs.declared.operand.Shift.{Shift}
use Rattle.a64_decode.specs.declared.operand.Shift.TheVariants.{Lsl, Lsr, Asr, Ror}
use Rattle.a64_decode.specs.declared.operand.Extend.{Extend}
use Rattle.a64_decode.specs.declared.operand.Extend.TheVariants.{Uxtb, Uxth, Uxtw, Uxtx, Sxtb, Sxth, Sxtw, Sxtx}
use Rattle.a64_decode.specs.declared.operand.LogicalKind.{LogicalKind}
use Rattle.a64_decode.specs.declared.operand.LogicalKind.TheVariants.{And, Orr, Eor, Ands}
use Rattle.a64_decode.specs.declared.operand.MoveKind.{MoveKind}
use Rattle.a64_decode.specs.declared.operand.MoveKind.TheVariants.{Movn, Movz, Movk}
use Rattle.a64_decode.specs.declared.operand.BitfieldKind.{BitfieldKind}
use Rattle.a64_decode.specs.declared.operand.BitfieldKind.TheVariants.{Sbfm, Bfm, Ubfm}
use Rattle.a64_decode.specs.declared.operand.BranchKind.{BranchKind}
use Rattle.a64_decode.specs.declared.operand.BranchKind.TheVariants.{Br, Blr, Ret}
use Rattle.a64_decode.specs.declared.operand.ExceptionKind.{ExceptionKind}
use Rattle.a64_decode.specs.declared.operand.ExceptionKind.TheVariants.{Svc, Hvc, Smc, Brk}
use Rattle.a64_decode.specs.declared.operand.BarrierKind.{BarrierKind}
use Rattle.a64_decode.specs.declared.operand.BarrierKind.TheVariants.{Clrex, Dsb, Dmb, Isb}
use Rattle.a64_decode.specs.declared.operand.PstateField.{PstateField}
use Rattle.a64_decode.specs.declared.operand.PstateField.TheVariants.{SpSel, DaifSet, DaifClr}
use Rattle.a64_decode.specs.declared.operand.SelectKind.{SelectKind}
use Rattle.a64_decode.specs.declared.operand.SelectKind.TheVariants.{Csel, Csinc, Csinv, Csneg}
use Rattle.a64_decode.specs.declared.operand.ProductKind.{ProductKind}
use Rattle.a64_decode.specs.declared.operand.ProductKind.TheVariants.{Madd, Msub, Smaddl, Smsubl, Smulh, Umaddl, Umsubl, Umulh}
use Rattle.a64_decode.specs.declared.operand.TwoSourceKind.{TwoSourceKind}
use Rattle.a64_decode.specs.declared.operand.TwoSourceKind.TheVariants.{Udiv, Sdiv, Lslv, Lsrv, Asrv, Rorv}
use Rattle.a64_decode.specs.declared.operand.OneSourceKind.{OneSourceKind}
use Rattle.a64_decode.specs.declared.operand.OneSourceKind.TheVariants.{Rbit, Rev16, Rev32, Rev64, Clz, Cls}
use Rattle.a64_decode.specs.declared.operand.IndexMode.{IndexMode}
use Rattle.a64_decode.specs.declared.operand.IndexMode.TheVariants.{Post, Offset, Pre}
use Rattle.a64_decode.specs.declared.operand.Transfer.{Transfer}
use Rattle.a64_decode.specs.declared.operand.Transfer.TheVariants.{Store, Load, LoadSigned, LoadSignedWord}
use Rattle.a64_decode.specs.declared.operand.Operand.{Operand}
use Rattle.a64_decode.specs.declared.operand.Operand.TheVariants as operand
use Rattle.a64_decode.specs.declared.operand.LiteralKind.{LiteralKind}
use Rattle.a64_decode.specs.declared.operand.LiteralKind.TheVariants as literal
use Rattle.a64_decode.specs.declared.operand.PairKind.{PairKind}
use Rattle.a64_decode.specs.declared.operand.PairKind.TheVariants as pair

unfoldable pub bit : Bool → ℕ
bit false = 0
bit true = 1

-- N, where it is sf once more
unfoldable pub size_bit : Bool → ℕ
size_bit wide = bit wide

unfoldable pub condition_number : Condition → ℕ
condition_number condition.Eq = 0
condition_number condition.Ne = 1
condition_number condition.Cs = 2
condition_number condition.Cc = 3
condition_number condition.Mi = 4
condition_number condition.Pl = 5
condition_number condition.Vs = 6
condition_number condition.Vc = 7
condition_number condition.Hi = 8
condition_number condition.Ls = 9
condition_number condition.Ge = 10
condition_number condition.Lt = 11
condition_number condition.Gt = 12
condition_number condition.Le = 13
condition_number condition.Al = 14
condition_number condition.Nv = 15

unfoldable pub shift_number : Shift → ℕ
shift_number Lsl = 0
shift_number Lsr = 1
shift_number Asr = 2
shift_number Ror = 3

unfoldable pub extend_number : Extend → ℕ
extend_number Uxtb = 0
extend_number Uxth = 1
extend_number Uxtw = 2
extend_number Uxtx = 3
extend_number Sxtb = 4
extend_number Sxth = 5
extend_number Sxtw = 6
extend_number Sxtx = 7

unfoldable pub logical_number : LogicalKind → ℕ
logical_number And = 0
logical_number Orr = 1
logical_number Eor = 2
logical_number Ands = 3

unfoldable pub move_number : MoveKind → ℕ
move_number Movn = 0
move_number Movz = 2
move_number Movk = 3

unfoldable pub bitfield_number : BitfieldKind → ℕ
bitfield_number Sbfm = 0
bitfield_number Bfm = 1
bitfield_number Ubfm = 2

unfoldable pub branch_number : BranchKind → ℕ
branch_number Br = 0
branch_number Blr = 1
branch_number Ret = 2

unfoldable pub barrier_number : BarrierKind → ℕ
barrier_number Clrex = 2
barrier_number Dsb = 4
barrier_number Dmb = 5
barrier_number Isb = 6

unfoldable pub two_source_number : TwoSourceKind → ℕ
two_source_number Udiv = 2
two_source_number Sdiv = 3
two_source_number Lslv = 8
two_source_number Lsrv = 9
two_source_number Asrv = 10
two_source_number Rorv = 11

unfoldable pub one_source_number : OneSourceKind → ℕ
one_source_number Rbit = 0
one_source_number Rev16 = 1
one_source_number Rev32 = 2
one_source_number Rev64 = 3
one_source_number Clz = 4
one_source_number Cls = 5

unfoldable pub literal_number : LiteralKind → ℕ
literal_number literal.Word = 0
literal_number literal.Double = 1
literal_number literal.SignedWord = 2
literal_number literal.Prefetch = 3

unfoldable pub pair_number : PairKind → ℕ
pair_number pair.Word = 0
pair_number pair.SignedWord = 1
pair_number pair.Double = 2

unfoldable pub mode_number : IndexMode → ℕ
mode_number Post = 1
mode_number Offset = 2
mode_number Pre = 3

unfoldable pub index_number : IndexMode → ℕ
index_number Offset = 0
index_number Post = 1
index_number Pre = 3

unfoldable pub transfer_number : Transfer → ℕ
transfer_number Store = 0
transfer_number Load = 1
transfer_number LoadSigned = 2
transfer_number LoadSignedWord = 3

unfoldable pub select_op : SelectKind → ℕ
select_op Csel = 0
select_op Csinc = 0
select_op Csinv = 1
select_op Csneg = 1

unfoldable pub select_o2 : SelectKind → ℕ
select_o2 Csel = 0
select_o2 Csinc = 1
select_o2 Csinv = 0
select_o2 Csneg = 1

unfoldable pub product_op31 : ProductKind → ℕ
product_op31 Madd = 0
product_op31 Msub = 0
product_op31 Smaddl = 1
product_op31 Smsubl = 1
product_op31 Smulh = 2
product_op31 Umaddl = 5
product_op31 Umsubl = 5
product_op31 Umulh = 6

unfoldable pub product_o0 : ProductKind → ℕ
product_o0 Madd = 0
product_o0 Msub = 1
product_o0 Smaddl = 0
product_o0 Smsubl = 1
product_o0 Smulh = 0
product_o0 Umaddl = 0
product_o0 Umsubl = 1
product_o0 Umulh = 0

unfoldable pub exception_brk : ExceptionKind → ℕ
exception_brk Svc = 0
exception_brk Hvc = 0
exception_brk Smc = 0
exception_brk Brk = 1

unfoldable pub exception_ll : ExceptionKind → ℕ
exception_ll Svc = 1
exception_ll Hvc = 2
exception_ll Smc = 3
exception_ll Brk = 0

unfoldable pub pstate_op1 : PstateField → ℕ
pstate_op1 SpSel = 0
pstate_op1 DaifSet = 3
pstate_op1 DaifClr = 3

unfoldable pub pstate_op2 : PstateField → ℕ
pstate_op2 SpSel = 5
pstate_op2 DaifSet = 6
pstate_op2 DaifClr = 7

unfoldable pub operand_i : Operand → ℕ
operand_i (operand.Register r) = 0
operand_i (operand.Immediate number) = 1

unfoldable pub operand_bits : Operand → ℕ
operand_bits (operand.Register r) = r.0
operand_bits (operand.Immediate number) = number

-- the bits of a number that was sign-extended; `half` is the weight of its sign
unfoldable pub unsigned_of : ℕ → ℕ → ℕ
unsigned_of half offset = offset % (2 * half)
