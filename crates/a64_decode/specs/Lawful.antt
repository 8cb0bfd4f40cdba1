-- Which values of `Instr` are instructions: each field fits its bits, and no case holds that is undefined everywhere.
use Rattle.std.specs.Prelude.{ℕ, ◌-◌, ◌*◌, ◌^◌, ◌<◌, ◌≤◌, ◌⊎◌, Bool, true, false, not, ◌&&◌, ◌||◌, ◌==◌, IsTrue, IsFalse, if◌then◌else◌}
use Rattle.bao_types.specs.Bitmask.{is_reserved}
use Rattle.bao_types.specs.declared.sys_id.SysId.{SysId}
use Rattle.a64_decode.specs.declared.instr.Instr.{Instr}
use Rattle.a64_decode.specs.declared.instr.Instr.TheVariants.{Address, AddSubImmediate, LogicalImmediate, MoveWide, Bitfield, Extract, Branch, BranchConditional, CompareBranch, TestBranch, BranchRegister, ExceptionReturn, Exception, Hint, Barrier, MsrImmediate, System, SystemRegister, LogicalShifted, AddSubShifted, AddSubExtended, AddSubCarry, ConditionalCompare, ConditionalSelect, ThreeSources, TwoSources, OneSource, LoadLiteral, Pair, LoadStoreUnsigned, LoadStoreIndexed, LoadStoreRegister, Undefined}
use Rattle.a64_decode.specs.declared.operand.Reg.{Reg}
use Rattle.a64_decode.specs.declared.operand.Shift.{Shift}
use Rattle.a64_decode.specs.declared.operand.Shift.TheVariants.{Lsl, Lsr, Asr, Ror}
use Rattle.a64_decode.specs.declared.operand.Extend.{Extend}
use Rattle.a64_decode.specs.declared.operand.Extend.TheVariants.{Uxtb, Uxth, Uxtw, Uxtx, Sxtb, Sxth, Sxtw, Sxtx}
use Rattle.a64_decode.specs.declared.operand.Operand.{Operand}
use Rattle.a64_decode.specs.declared.operand.Operand.TheVariants as operand
use Rattle.a64_decode.specs.declared.operand.ProductKind.{ProductKind}
use Rattle.a64_decode.specs.declared.operand.ProductKind.TheVariants.{Madd, Msub, Smaddl, Smsubl, Smulh, Umaddl, Umsubl, Umulh}
use Rattle.a64_decode.specs.declared.operand.OneSourceKind.{OneSourceKind}
use Rattle.a64_decode.specs.declared.operand.OneSourceKind.TheVariants.{Rbit, Rev16, Rev32, Rev64, Clz, Cls}
use Rattle.a64_decode.specs.declared.operand.PairKind.{PairKind}
use Rattle.a64_decode.specs.declared.operand.PairKind.TheVariants as pair
use Rattle.a64_decode.specs.declared.operand.IndexMode.{IndexMode}
use Rattle.a64_decode.specs.declared.operand.IndexMode.TheVariants.{Post, Offset, Pre}
use Rattle.a64_decode.specs.declared.operand.Size.{Size}
use Rattle.a64_decode.specs.declared.operand.Size.TheVariants as size
use Rattle.a64_decode.specs.declared.operand.Transfer.{Transfer}
use Rattle.a64_decode.specs.declared.operand.Transfer.TheVariants.{LoadSigned, LoadSignedWord}

-- a register's number
abbrev pub IsReg : Reg → Type 0
IsReg r = r.0 < 32

-- a number of this many bits, sign-extended to 64 bits
abbrev pub IsSigned : ℕ → ℕ → Type 0
IsSigned width offset = (offset < 2 ^ (width - 1)) ⊎ ((2 ^ 64 - 2 ^ (width - 1) ≤ offset) × (offset < 2 ^ 64))

-- the bits of the registers that a form works on
abbrev pub width_of : Bool → ℕ
width_of wide = if wide then 64 else 32

-- a register, or a number of five bits
abbrev pub IsOperand : Operand → Type 0
IsOperand (operand.Register r) = IsReg r
IsOperand (operand.Immediate number) = number < 32

-- the number of a system register in a word
abbrev pub IsSysId : SysId → Type 0
IsSysId id = (2 ≤ id.op0) × (id.op0 < 4) × (id.op1 < 8) × (id.crn < 16) × (id.crm < 16) × (id.op2 < 8)

-- an addition has no rotated operand
abbrev pub is_rotation : Shift → Bool
is_rotation Lsl = false
is_rotation Lsr = false
is_rotation Asr = false
is_rotation Ror = true

-- the products of both forms
abbrev pub is_of_both_forms : ProductKind → Bool
is_of_both_forms Madd = true
is_of_both_forms Msub = true
is_of_both_forms Smaddl = false
is_of_both_forms Smsubl = false
is_of_both_forms Smulh = false
is_of_both_forms Umaddl = false
is_of_both_forms Umsubl = false
is_of_both_forms Umulh = false

-- the reversal of eight bytes
abbrev pub is_long_reversal : OneSourceKind → Bool
is_long_reversal Rbit = false
is_long_reversal Rev16 = false
is_long_reversal Rev32 = false
is_long_reversal Rev64 = true
is_long_reversal Clz = false
is_long_reversal Cls = false

abbrev pub writes_back : IndexMode → Bool
writes_back Post = true
writes_back Offset = false
writes_back Pre = true

abbrev pub is_signed_pair : PairKind → Bool
is_signed_pair pair.Word = false
is_signed_pair pair.SignedWord = true
is_signed_pair pair.Double = false

-- a signed load to 32 bits of a word or a double word
abbrev pub has_no_transfer : Size → Transfer → Bool
has_no_transfer size.Word LoadSignedWord = true
has_no_transfer size.Double LoadSignedWord = true
has_no_transfer _ _ = false

-- a signed load of a double word
abbrev pub is_prefetch : Size → Transfer → Bool
is_prefetch size.Double LoadSigned = true
is_prefetch _ _ = false

-- the extensions of an offset
abbrev pub extends_an_offset : Extend → Bool
extends_an_offset Uxtb = false
extends_an_offset Uxth = false
extends_an_offset Uxtw = true
extends_an_offset Uxtx = true
extends_an_offset Sxtb = false
extends_an_offset Sxth = false
extends_an_offset Sxtw = true
extends_an_offset Sxtx = true

-- a base that is written and transferred at once, where it isn't SP
abbrev pub is_overwritten : IndexMode → Reg → Reg → Bool
is_overwritten mode base r = writes_back mode && not (base.0 == 31) && base.0 == r.0

-- caches and TLBs, without address translation and DC ZVA
abbrev pub is_maintenance : ℕ → ℕ → ℕ → ℕ → Bool
is_maintenance op1 crn crm op2 =
    (crn == 8) || (crn == 7 && not (crm == 8) && not (op1 == 3 && crm == 4 && op2 == 1))

abbrev pub IsLawful : Instr → Type 0
IsLawful (Address page offset rd) = IsSigned 21 offset × IsReg rd
IsLawful (AddSubImmediate wide subtract flags shifted imm12 rn rd) = (imm12 < 2 ^ 12) × IsReg rn × IsReg rd
IsLawful (LogicalImmediate wide kind n immr imms rn rd) =
    (n < 2) × (immr < 64) × (imms < 64) × IsReg rn × IsReg rd × IsFalse (is_reserved n imms wide)
IsLawful (MoveWide wide kind hw imm16 rd) = (16 * hw < width_of wide) × (imm16 < 2 ^ 16) × IsReg rd
IsLawful (Bitfield wide kind immr imms rn rd) = (immr < width_of wide) × (imms < width_of wide) × IsReg rn × IsReg rd
IsLawful (Extract wide rm imms rn rd) = IsReg rm × (imms < width_of wide) × IsReg rn × IsReg rd
IsLawful (Branch link offset) = IsSigned 26 offset
IsLawful (BranchConditional offset condition) = IsSigned 19 offset
IsLawful (CompareBranch wide nonzero offset rt) = IsSigned 19 offset × IsReg rt
IsLawful (TestBranch bit nonzero offset rt) = (bit < 64) × IsSigned 14 offset × IsReg rt
IsLawful (BranchRegister kind rn) = IsReg rn
IsLawful ExceptionReturn = Unit {0}
IsLawful (Exception kind imm16) = imm16 < 2 ^ 16
IsLawful (Hint crm op2) = (crm < 16) × (op2 < 8)
IsLawful (Barrier crm kind) = crm < 16
IsLawful (MsrImmediate part crm) = crm < 16
IsLawful (System op1 crn crm op2 rt) =
    (op1 < 8) × (crn < 16) × (crm < 16) × (op2 < 8) × IsReg rt × IsTrue (is_maintenance op1 crn crm op2)
IsLawful (SystemRegister read id rt) = IsSysId id × IsReg rt
IsLawful (LogicalShifted wide kind shift invert rm amount rn rd) =
    IsReg rm × (amount < width_of wide) × IsReg rn × IsReg rd
IsLawful (AddSubShifted wide subtract flags shift rm amount rn rd) =
    IsFalse (is_rotation shift) × IsReg rm × (amount < width_of wide) × IsReg rn × IsReg rd
IsLawful (AddSubExtended wide subtract flags rm extend amount rn rd) = IsReg rm × (amount ≤ 4) × IsReg rn × IsReg rd
IsLawful (AddSubCarry wide subtract flags rm rn rd) = IsReg rm × IsReg rn × IsReg rd
IsLawful (ConditionalCompare wide subtract operand condition rn nzcv) = IsOperand operand × IsReg rn × (nzcv < 16)
IsLawful (ConditionalSelect wide kind rm condition rn rd) = IsReg rm × IsReg rn × IsReg rd
IsLawful (ThreeSources wide kind rm ra rn rd) =
    IsReg rm × IsReg ra × IsReg rn × IsReg rd × IsTrue (wide || is_of_both_forms kind)
IsLawful (TwoSources wide kind rm rn rd) = IsReg rm × IsReg rn × IsReg rd
IsLawful (OneSource wide kind rn rd) = IsReg rn × IsReg rd × IsTrue (wide || not (is_long_reversal kind))
IsLawful (LoadLiteral kind offset rt) = IsSigned 19 offset × IsReg rt
IsLawful (Pair kind mode load offset rt2 rn rt) =
    IsSigned 7 offset
    × IsReg rt2
    × IsReg rn
    × IsReg rt
    × IsTrue (load || not (is_signed_pair kind))
    × IsFalse (load && rt.0 == rt2.0)
    × IsFalse (is_overwritten mode rn rt || is_overwritten mode rn rt2)
IsLawful (LoadStoreUnsigned size transfer imm12 rn rt) =
    (imm12 < 2 ^ 12) × IsReg rn × IsReg rt × IsFalse (has_no_transfer size transfer)
IsLawful (LoadStoreIndexed size transfer offset mode rn rt) =
    IsSigned 9 offset
    × IsReg rn
    × IsReg rt
    × IsFalse (has_no_transfer size transfer)
    × IsFalse (writes_back mode && is_prefetch size transfer)
    × IsFalse (is_overwritten mode rn rt)
IsLawful (LoadStoreRegister size transfer rm extend scaled rn rt) =
    IsReg rm × IsReg rn × IsReg rt × IsFalse (has_no_transfer size transfer) × IsTrue (extends_an_offset extend)
IsLawful Undefined = Unit {0}
