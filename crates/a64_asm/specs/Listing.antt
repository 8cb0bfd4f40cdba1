-- The listing: the text of each word, by the form that its instruction has.
use Rattle.std.specs.Prelude.{◌≡◌, ℕ, ◌+◌, ◌*◌, ◌%◌, ◌==◌, ◌&&◌, ◌||◌, nat_le, not, Bool, true, false, if◌then◌else◌, List, [], ◌∷◌, ◌++◌, Option, None, Some, codes, unwrap_or, IsTrue, IsFalse}
use Rattle.std.specs.List.{flat_map}
use Rattle.std.specs.Fmt.{decimal}
use Rattle.numerals.specs.Hex.{hex}
use Rattle.bao_types.specs.Bytes.{little_endian}
use Rattle.bao_types.specs.declared.sys_id.SysId.{SysId}
use Rattle.a64_decode.specs.declared.instr.Instr.{Instr}
use Rattle.a64_decode.specs.declared.instr.Instr.TheVariants as instr
use Rattle.a64_decode.specs.declared.operand.Reg.{Reg}
use Rattle.a64_decode.specs.declared.operand.Condition.{Condition}
use Rattle.a64_decode.specs.declared.operand.Condition.TheVariants as condition
use Rattle.a64_decode.specs.declared.operand.LogicalKind.{LogicalKind}
use Rattle.a64_decode.specs.declared.operand.LogicalKind.TheVariants.{And, Orr, Eor, Ands}
use Rattle.a64_decode.specs.declared.operand.MoveKind.{MoveKind}
use Rattle.a64_decode.specs.declared.operand.Shift.{Shift}
use Rattle.a64_decode.specs.declared.operand.Shift.TheVariants.{Lsl, Lsr, Asr, Ror}
use Rattle.a64_decode.specs.declared.operand.Size.{Size}
use Rattle.a64_decode.specs.declared.operand.Size.TheVariants as size
use Rattle.a64_decode.specs.declared.operand.Transfer.{Transfer}
use Rattle.a64_decode.specs.declared.operand.Transfer.TheVariants as transfer
use Rattle.a64_decode.specs.Table.{decoded}
use Rattle.a64_asm.specs.Text.{comma}
use Rattle.a64_asm.specs.Number.{offset_text}
use Rattle.a64_asm.specs.Register.{register_text}
use Rattle.a64_asm.specs.Mnemonic.{name_of}
use Rattle.a64_asm.specs.Source.{image_limit}
use Rattle.a64_asm.specs.declared.error.ListError.{ListError}
use Rattle.a64_asm.specs.declared.error.ListError.TheVariants.{BadLength, OutOfMemory}
use Rattle.a64_asm.specs.declared.mnemonic.Mnemonic.{Mnemonic}
use Rattle.a64_asm.specs.declared.mnemonic.Mnemonic.TheVariants.{Move, AddSub, Logical, Access, Branch, BranchIf, CompareBranch, BranchRegister, Exception, System, ExceptionReturn, Nop, Word}

-- a name, a blank and operands
abbrev pub phrase : Mnemonic → List ℕ → List ℕ
phrase name operands = name_of name ++ (codes " " ++ operands)

-- `NAME D, I, S`
unfoldable pub move_text : MoveKind → Bool → ℕ → ℕ → Reg → List ℕ
move_text kind wide hw imm16 rd =
    phrase (Move kind) (register_text false wide rd ++ (comma ++ (decimal imm16 ++ (comma ++ decimal (16 * hw)))))

-- `NAME D, N, I`, where 31 is SP
unfoldable pub add_text : Bool → Bool → ℕ → Reg → Reg → List ℕ
add_text subtract wide imm12 rn rd =
    phrase (AddSub subtract) (register_text true wide rd ++ (comma ++ (register_text true wide rn ++ (comma ++ decimal imm12))))

-- `NAME D, N, M`
unfoldable pub registers_text : Mnemonic → Bool → Reg → Reg → Reg → List ℕ
registers_text name wide rm rn rd =
    phrase name
    (register_text false wide rd ++ (comma ++ (register_text false wide rn ++ (comma ++ register_text false wide rm))))

-- `NAME T, [N, I]`, where the base 31 is SP
unfoldable pub access_text : Mnemonic → Bool → ℕ → Reg → Reg → List ℕ
access_text name wide offset rn rt =
    phrase name
    (register_text false wide rt ++ (comma ++ (codes "[" ++ (register_text true true rn ++ (comma ++ (decimal offset ++ codes "]"))))))

-- `NAME L`
unfoldable pub branch_text : Mnemonic → ℕ → List ℕ
branch_text name offset = phrase name (offset_text offset)

-- `NAME T, L`
unfoldable pub compare_text : Bool → Bool → ℕ → Reg → List ℕ
compare_text nonzero wide offset rt = phrase (CompareBranch nonzero) (register_text false wide rt ++ (comma ++ offset_text offset))

-- `sA_B_cC_cD_E`
unfoldable pub system_name : SysId → List ℕ
system_name id =
    codes "s"
    ++ (decimal id.op0
    ++ (codes "_" ++ (decimal id.op1 ++ (codes "_c" ++ (decimal id.crn ++ (codes "_c" ++ (decimal id.crm ++ (codes "_" ++ decimal id.op2))))))))

-- `mrs T, R` and `msr R, T`
unfoldable pub system_text : Bool → SysId → Reg → List ℕ
system_text true id rt = phrase (System true) (register_text false true rt ++ (comma ++ system_name id))
system_text false id rt = phrase (System false) (system_name id ++ (comma ++ register_text false true rt))

-- the shift of a form without one
abbrev pub is_unshifted : Shift → ℕ → Bool
is_unshifted Lsl amount = amount == 0
is_unshifted Lsr amount = false
is_unshifted Asr amount = false
is_unshifted Ror amount = false

-- the logical operations that don't set flags
abbrev pub is_named : LogicalKind → Bool
is_named And = true
is_named Orr = true
is_named Eor = true
is_named Ands = false

-- the conditions that a branch names
abbrev pub is_condition : Condition → Bool
is_condition condition.Al = false
is_condition condition.Nv = false
is_condition condition.Eq = true
is_condition condition.Ne = true
is_condition condition.Cs = true
is_condition condition.Cc = true
is_condition condition.Mi = true
is_condition condition.Pl = true
is_condition condition.Vs = true
is_condition condition.Vc = true
is_condition condition.Hi = true
is_condition condition.Ls = true
is_condition condition.Ge = true
is_condition condition.Lt = true
is_condition condition.Gt = true
is_condition condition.Le = true

-- loads and stores of 64 and 32 bits and of bytes, of which no load fills in a sign; the offset counts elements
abbrev pub transfer_form : Bool → Size → ℕ → Reg → Reg → Option (List ℕ)
transfer_form load size.Byte imm12 rn rt = Some (access_text (Access load true) false imm12 rn rt)
transfer_form load size.Half imm12 rn rt = None
transfer_form load size.Word imm12 rn rt = Some (access_text (Access load false) false (4 * imm12) rn rt)
transfer_form load size.Double imm12 rn rt = Some (access_text (Access load false) true (8 * imm12) rn rt)

abbrev pub access_form : Size → Transfer → ℕ → Reg → Reg → Option (List ℕ)
access_form size transfer.Store imm12 rn rt = transfer_form false size imm12 rn rt
access_form size transfer.Load imm12 rn rt = transfer_form true size imm12 rn rt
access_form size transfer.LoadSigned imm12 rn rt = None
access_form size transfer.LoadSignedWord imm12 rn rt = None

-- the line of an instruction, without its end, where it has a form
unfoldable pub form_of : Instr → Option (List ℕ)
form_of (instr.MoveWide wide kind hw imm16 rd) = Some (move_text kind wide hw imm16 rd)
form_of (instr.AddSubImmediate wide subtract flags shifted imm12 rn rd) =
    if flags || shifted then None else Some (add_text subtract wide imm12 rn rd)
form_of (instr.AddSubShifted wide subtract flags shift rm amount rn rd) =
    if not flags && is_unshifted shift amount then Some (registers_text (AddSub subtract) wide rm rn rd) else None
form_of (instr.LogicalShifted wide kind shift invert rm amount rn rd) =
    if not invert && is_named kind && is_unshifted shift amount then Some (registers_text (Logical kind) wide rm rn rd) else None
form_of (instr.LoadStoreUnsigned size transfer imm12 rn rt) = access_form size transfer imm12 rn rt
form_of (instr.Branch link offset) = Some (branch_text (Branch link) offset)
form_of (instr.BranchConditional offset condition) =
    if is_condition condition then Some (branch_text (BranchIf condition) offset) else None
form_of (instr.CompareBranch wide nonzero offset rt) = Some (compare_text nonzero wide offset rt)
form_of (instr.BranchRegister kind rn) = Some (phrase (BranchRegister kind) (register_text false true rn))
form_of (instr.Exception kind imm16) = Some (phrase (Exception kind) (decimal imm16))
form_of (instr.SystemRegister read id rt) = Some (system_text read id rt)
form_of instr.ExceptionReturn = Some (name_of ExceptionReturn)
form_of (instr.Hint crm op2) = if (crm == 0) && (op2 == 0) then Some (name_of Nop) else None
form_of (instr.Address page offset rd) = None
form_of (instr.LogicalImmediate wide kind n immr imms rn rd) = None
form_of (instr.Bitfield wide kind immr imms rn rd) = None
form_of (instr.Extract wide rm imms rn rd) = None
form_of (instr.TestBranch bit nonzero offset rt) = None
form_of (instr.Barrier crm kind) = None
form_of (instr.MsrImmediate part crm) = None
form_of (instr.System op1 crn crm op2 rt) = None
form_of (instr.AddSubExtended wide subtract flags rm extend amount rn rd) = None
form_of (instr.AddSubCarry wide subtract flags rm rn rd) = None
form_of (instr.ConditionalCompare wide subtract operand condition rn nzcv) = None
form_of (instr.ConditionalSelect wide kind rm condition rn rd) = None
form_of (instr.ThreeSources wide kind rm ra rn rd) = None
form_of (instr.TwoSources wide kind rm rn rd) = None
form_of (instr.OneSource wide kind rn rd) = None
form_of (instr.LoadLiteral kind offset rt) = None
form_of (instr.Pair kind mode load offset rt2 rn rt) = None
form_of (instr.LoadStoreIndexed size transfer offset mode rn rt) = None
form_of (instr.LoadStoreRegister size transfer rm extend scaled rn rt) = None
form_of instr.Undefined = None

-- `.word` and eight digits
unfoldable pub raw_text : ℕ → List ℕ
raw_text word = phrase Word (hex 8 word)

-- the line of a word, without its end
abbrev pub text_of : ℕ → List ℕ
text_of word = unwrap_or (form_of (decoded word)) (raw_text word)

unfoldable pub line_of_word : ℕ → List ℕ
line_of_word word = text_of word ++ 10 ∷ []

-- the words of an image, each of four bytes, the lowest first
unfoldable pub words_of : List ℕ → List ℕ
words_of (a ∷ b ∷ c ∷ d ∷ rest) = little_endian (a ∷ b ∷ c ∷ d ∷ []) ∷ words_of rest
words_of _ = []

-- a line for each word
unfoldable pub listing : List ℕ → List ℕ
listing image = flat_map line_of_word (words_of image)

-- whole words, and not too many
abbrev pub is_image_length : ℕ → Bool
is_image_length len = (len % 4 == 0) && nat_le len image_limit

-- what a function leaves that writes this text, where there is one, after what it had
abbrev pub Pushes : Option (List ℕ) → List ℕ → List ℕ → Bool → Type 0
Pushes None old new done = (done ≡ false) × (new ≡ old)
Pushes (Some text) old new done = (done ≡ true) × (new ≡ old ++ text)

-- this many bytes are refused, or memory ran out
abbrev pub TellsLength : ℕ → ListError → Type 0
TellsLength len (BadLength told) = (told ≡ len) × IsFalse (is_image_length len)
TellsLength len OutOfMemory = IsTrue (is_image_length len)
