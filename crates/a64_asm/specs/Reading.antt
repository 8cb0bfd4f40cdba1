-- What a line says that is one word of the image: an instruction by the form of the line, or a word as it is. Rule 1 is the
-- form, 2 a number that the form doesn't admit, and 3 a label that no line defines.
use Rattle.std.specs.Prelude.{ℕ, ◌/◌, ◌%◌, ◌^◌, ◌==◌, ◌&&◌, ◌||◌, nat_lt, Bool, true, false, if◌then◌else◌, List, Option, None, Some, Result, Ok, Err}
use Rattle.a64_decode.specs.declared.instr.Instr.TheVariants as instr
use Rattle.a64_decode.specs.declared.operand.Condition.{Condition}
use Rattle.a64_decode.specs.declared.operand.LogicalKind.{LogicalKind}
use Rattle.a64_decode.specs.declared.operand.MoveKind.{MoveKind}
use Rattle.a64_decode.specs.declared.operand.BranchKind.{BranchKind}
use Rattle.a64_decode.specs.declared.operand.ExceptionKind.{ExceptionKind}
use Rattle.a64_decode.specs.declared.operand.Shift.TheVariants.{Lsl}
use Rattle.a64_decode.specs.declared.operand.Size.{Size}
use Rattle.a64_decode.specs.declared.operand.Size.TheVariants as size
use Rattle.a64_decode.specs.declared.operand.Transfer.{Transfer}
use Rattle.a64_decode.specs.declared.operand.Transfer.TheVariants as transfer
use Rattle.a64_decode.specs.Access.{scale_of}
use Rattle.text_lines.specs.Ascii.{blank}
use Rattle.a64_asm.specs.Text.{Cut, Whole, Parts, cut_of, operand_of}
use Rattle.numerals.specs.Numeral.{number_of}
use Rattle.a64_asm.specs.Number.{hex_word_of}
use Rattle.a64_asm.specs.Register.{register_of}
use Rattle.a64_asm.specs.Mnemonic.{mnemonic_of}
use Rattle.a64_asm.specs.Operand.{Triple, Fewer, Three, triple_of, is_same, trio_of, base_of, offset_of, system_numbers, target_of, words_to}
use Rattle.a64_asm.specs.declared.register.Register.{Register}
use Rattle.a64_asm.specs.declared.operand.Trio.{Trio}
use Rattle.a64_asm.specs.declared.operand.Numbers.{Numbers}
use Rattle.a64_asm.specs.declared.label.Definition.{Definition}
use Rattle.a64_asm.specs.declared.said.Said.{Said}
use Rattle.a64_asm.specs.declared.said.Said.TheVariants.{Instruction, Raw}
use Rattle.a64_asm.specs.declared.mnemonic.Mnemonic.{Mnemonic}
use Rattle.a64_asm.specs.declared.mnemonic.Mnemonic.TheVariants.{Move, AddSub, Logical, Access, Branch, BranchIf, CompareBranch, BranchRegister, Exception, System, ExceptionReturn, Nop, Word}

-- 16 bits at bit 0, 16, 32 or 48; of a 32-bit register at bit 0 or 16
abbrev pub is_shift : Bool → ℕ → Bool
is_shift wide shift = (shift == 0) || (shift == 16) || (wide && ((shift == 32) || (shift == 48)))

-- `movn D, I, S`, and the others
abbrev pub moved : MoveKind → Option Register → Option ℕ → Option ℕ → Result Said ℕ
moved kind None imm shift = Err 1
moved kind (Some rd) None shift = Err 1
moved kind (Some rd) (Some imm) None = Err 1
moved kind (Some rd) (Some imm) (Some shift) =
    if nat_lt imm 65536 && is_shift rd.wide shift then Ok (Instruction (instr.MoveWide rd.wide kind (shift / 16) imm rd.reg)) else Err 2

abbrev pub move_row : MoveKind → Triple → Result Said ℕ
move_row kind Fewer = Err 1
move_row kind (Three rd imm shift) = moved kind (register_of false rd) (number_of imm) (number_of shift)

-- `add D, N, I` and `sub D, N, I`
abbrev pub number_added : Bool → Option Register → Option Register → ℕ → Result Said ℕ
number_added subtract None rn imm = Err 1
number_added subtract (Some rd) None imm = Err 1
number_added subtract (Some rd) (Some rn) imm =
    if is_same rd.wide rn.wide
    then if nat_lt imm 4096 then Ok (Instruction (instr.AddSubImmediate rd.wide subtract false false imm rn.reg rd.reg)) else Err 2
    else Err 1

-- `add D, N, M` and `sub D, N, M`
abbrev pub registers_added : Bool → Option Trio → Result Said ℕ
registers_added subtract None = Err 1
registers_added subtract (Some trio) =
    Ok (Instruction (instr.AddSubShifted trio.wide subtract false Lsl trio.rm 0 trio.rn trio.rd))

-- the last operand is a number, or else a register
abbrev pub added : Bool → List ℕ → List ℕ → List ℕ → Option ℕ → Result Said ℕ
added subtract rd rn rm (Some imm) = number_added subtract (register_of true rd) (register_of true rn) imm
added subtract rd rn rm None =
    registers_added subtract (trio_of (register_of false rd) (register_of false rn) (register_of false rm))

abbrev pub add_row : Bool → Triple → Result Said ℕ
add_row subtract Fewer = Err 1
add_row subtract (Three rd rn last) = added subtract rd rn last (number_of last)

-- `and D, N, M`, and the others
abbrev pub combined : LogicalKind → Option Trio → Result Said ℕ
combined kind None = Err 1
combined kind (Some trio) =
    Ok (Instruction (instr.LogicalShifted trio.wide kind Lsl false trio.rm 0 trio.rn trio.rd))

abbrev pub logical_row : LogicalKind → Triple → Result Said ℕ
logical_row kind Fewer = Err 1
logical_row kind (Three rd rn rm) = combined kind (trio_of (register_of false rd) (register_of false rn) (register_of false rm))

abbrev pub transfer_of : Bool → Transfer
transfer_of false = transfer.Store
transfer_of true = transfer.Load

-- the offset is a multiple of the width that fits 12 bits
abbrev pub transferred : Bool → Size → Register → Register → ℕ → Result Said ℕ
transferred load size rt base offset =
    let width : ℕ = 2 ^ scale_of size in
    if (offset % width == 0) && nat_lt (offset / width) 4096
    then Ok (Instruction (instr.LoadStoreUnsigned size (transfer_of load) (offset / width) base.reg rt.reg))
    else Err 2

-- a byte goes to or from a 32-bit register
abbrev pub accessed : Bool → Bool → Register → Register → ℕ → Result Said ℕ
accessed load false rt base offset =
    if rt.wide then transferred load size.Double rt base offset else transferred load size.Word rt base offset
accessed load true rt base offset = if rt.wide then Err 1 else transferred load size.Byte rt base offset

-- `ldr T, [N, I]`, and the others
abbrev pub access : Bool → Bool → Option Register → Option Register → Option ℕ → Result Said ℕ
access load byte None base offset = Err 1
access load byte (Some rt) None offset = Err 1
access load byte (Some rt) (Some base) None = Err 1
access load byte (Some rt) (Some base) (Some offset) = if base.wide then accessed load byte rt base offset else Err 1

abbrev pub access_row : Bool → Bool → Triple → Result Said ℕ
access_row load byte Fewer = Err 1
access_row load byte (Three rt base offset) = access load byte (register_of false rt) (base_of base) (offset_of offset)

-- `b L` and `bl L`
abbrev pub branch_row : Bool → Result ℕ ℕ → Result Said ℕ
branch_row link (Err rule) = Err rule
branch_row link (Ok offset) = Ok (Instruction (instr.Branch link offset))

-- `b.C L`
abbrev pub condition_row : Condition → Result ℕ ℕ → Result Said ℕ
condition_row condition (Err rule) = Err rule
condition_row condition (Ok offset) = Ok (Instruction (instr.BranchConditional offset condition))

-- `cbz T, L` and `cbnz T, L`
abbrev pub compared : Bool → Option Register → Result ℕ ℕ → Result Said ℕ
compared nonzero None offset = Err 1
compared nonzero (Some rt) (Err rule) = Err rule
compared nonzero (Some rt) (Ok offset) = Ok (Instruction (instr.CompareBranch rt.wide nonzero offset rt.reg))

abbrev pub compare_row : (List ℕ → Option Definition) → ℕ → Bool → Cut → Result Said ℕ
compare_row labels place nonzero Whole = Err 1
compare_row labels place nonzero (Parts rt target) =
    compared nonzero (register_of false rt) (words_to 19 (target_of labels place target))

-- `br N`, and the others
abbrev pub register_row : BranchKind → Option Register → Result Said ℕ
register_row kind None = Err 1
register_row kind (Some rn) = if rn.wide then Ok (Instruction (instr.BranchRegister kind rn.reg)) else Err 1

-- `svc I`, and the others
abbrev pub exception_row : ExceptionKind → Option ℕ → Result Said ℕ
exception_row kind None = Err 1
exception_row kind (Some imm) = if nat_lt imm 65536 then Ok (Instruction (instr.Exception kind imm)) else Err 2

-- the numbers of a system register
abbrev pub is_system : Numbers → Bool
is_system n =
    ((n.op0 == 2) || (n.op0 == 3)) && nat_lt n.op1 8 && nat_lt n.crn 16 && nat_lt n.crm 16 && nat_lt n.op2 8

-- `mrs T, R` and `msr R, T`
abbrev pub system_said : Bool → Option Numbers → Option Register → Result Said ℕ
system_said read None rt = Err 1
system_said read (Some n) None = Err 1
system_said read (Some n) (Some rt) =
    if rt.wide
    then
    if is_system n
    then Ok (Instruction (instr.SystemRegister read (record { op0 = n.op0; op1 = n.op1; crn = n.crn; crm = n.crm; op2 = n.op2 }) rt.reg))
    else Err 2
    else Err 1

abbrev pub system_row : Bool → Cut → Result Said ℕ
system_row read Whole = Err 1
system_row true (Parts rt name) = system_said true (system_numbers name) (register_of false rt)
system_row false (Parts name rt) = system_said false (system_numbers name) (register_of false rt)

-- `.word H`
abbrev pub word_row : Option ℕ → Result Said ℕ
word_row None = Err 1
word_row (Some word) = Ok (Raw word)

-- `eret` and `nop`, which have no operands
abbrev pub alone : Option Mnemonic → Result Said ℕ
alone None = Err 1
alone (Some ExceptionReturn) = Ok (Instruction instr.ExceptionReturn)
alone (Some Nop) = Ok (Instruction (instr.Hint 0 0))
alone (Some (Move kind)) = Err 1
alone (Some (AddSub subtract)) = Err 1
alone (Some (Logical kind)) = Err 1
alone (Some (Access load byte)) = Err 1
alone (Some (Branch link)) = Err 1
alone (Some (BranchIf condition)) = Err 1
alone (Some (CompareBranch nonzero)) = Err 1
alone (Some (BranchRegister kind)) = Err 1
alone (Some (Exception kind)) = Err 1
alone (Some (System read)) = Err 1
alone (Some Word) = Err 1

-- the form of a first word, with the text of its operands
unfoldable pub row_of : (List ℕ → Option Definition) → ℕ → Option Mnemonic → List ℕ → Result Said ℕ
row_of labels place None text = Err 1
row_of labels place (Some (Move kind)) text = move_row kind (triple_of text)
row_of labels place (Some (AddSub subtract)) text = add_row subtract (triple_of text)
row_of labels place (Some (Logical kind)) text = logical_row kind (triple_of text)
row_of labels place (Some (Access load byte)) text = access_row load byte (triple_of text)
row_of labels place (Some (Branch link)) text = branch_row link (words_to 26 (target_of labels place text))
row_of labels place (Some (BranchIf condition)) text = condition_row condition (words_to 19 (target_of labels place text))
row_of labels place (Some (CompareBranch nonzero)) text = compare_row labels place nonzero (operand_of text)
row_of labels place (Some (BranchRegister kind)) text = register_row kind (register_of false text)
row_of labels place (Some (Exception kind)) text = exception_row kind (number_of text)
row_of labels place (Some (System read)) text = system_row read (operand_of text)
row_of labels place (Some ExceptionReturn) text = Err 1
row_of labels place (Some Nop) text = Err 1
row_of labels place (Some Word) text = word_row (hex_word_of text)

-- a line that is one word: its first word ends at its first blank
abbrev pub said_in : (List ℕ → Option Definition) → ℕ → List ℕ → Cut → Result Said ℕ
said_in labels place text Whole = alone (mnemonic_of text)
said_in labels place text (Parts name operands) = row_of labels place (mnemonic_of name) operands

unfoldable pub said_of : (List ℕ → Option Definition) → ℕ → List ℕ → Result Said ℕ
said_of labels place text = said_in labels place text (cut_of blank text)
