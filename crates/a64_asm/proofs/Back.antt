-- Each line of the listing is read as the word that it was made of.
use Rattle.std.proofs.Common.{◌≡◌, ℕ, zero, suc, ◌+◌, ◌-◌, ◌*◌, ◌/◌, ◌%◌, ◌^◌, ◌<◌, ◌≤◌, Bool, true, false, not, List, [], ◌∷◌, ◌++◌, length, refl, sym, ap, subst, ◌∙◌, arith, inl, inr}
use Rattle.std.specs.Prelude.{Option, None, Some, Ok, Err, ◌==◌, ◌&&◌, ◌||◌, nat_le, nat_lt, is_none, if◌then◌else◌, codes}
use Rattle.std.specs.List.{list_all}
use Rattle.std.specs.Char.{is_ascii_digit}
use Rattle.std.specs.Fmt.{decimal, digits}
use Rattle.std.proofs.lemmas.Bool.{and_parts, and_from, lt-ltb, le-leb, eq-eqb}
use Rattle.std.proofs.lemmas.Bool.Decides.{nat_tests}
use Rattle.std.proofs.lemmas.List.Folds.{list_all-append}
use Rattle.std.proofs.lemmas.Fmt.{decimal_nonempty}
use Rattle.bao_types.specs.declared.sys_id.SysId.{SysId}
use Rattle.a64_decode.specs.declared.instr.Instr.TheVariants as instr
use Rattle.a64_decode.specs.declared.operand.Reg.{Reg}
use Rattle.a64_decode.specs.declared.operand.Condition.{Condition}
use Rattle.a64_decode.specs.declared.operand.Condition.TheVariants as condition
use Rattle.a64_decode.specs.declared.operand.LogicalKind.{LogicalKind}
use Rattle.a64_decode.specs.declared.operand.LogicalKind.TheVariants.{And, Orr, Eor, Ands}
use Rattle.a64_decode.specs.declared.operand.MoveKind.{MoveKind}
use Rattle.a64_decode.specs.declared.operand.MoveKind.TheVariants.{Movn, Movz, Movk}
use Rattle.a64_decode.specs.declared.operand.BranchKind.{BranchKind}
use Rattle.a64_decode.specs.declared.operand.BranchKind.TheVariants.{Br, Blr, Ret}
use Rattle.a64_decode.specs.declared.operand.ExceptionKind.{ExceptionKind}
use Rattle.a64_decode.specs.declared.operand.ExceptionKind.TheVariants.{Svc, Hvc, Smc, Brk}
use Rattle.a64_decode.specs.declared.operand.Shift.TheVariants.{Lsl}
use Rattle.a64_decode.specs.declared.operand.Size.{Size}
use Rattle.a64_decode.specs.Lawful.{IsSigned, IsSysId}
use Rattle.a64_decode.specs.Access.{scale_of}
use Rattle.a64_asm.specs.Text.{comma}
use Rattle.numerals.specs.Numeral.{number_of}
use Rattle.numerals.specs.Hex.{hex}
use Rattle.a64_asm.specs.Number.{offset_text}
use Rattle.a64_asm.specs.Register.{register_text, named}
use Rattle.a64_asm.specs.Mnemonic.{name_of, mnemonic_of, mnemonics, branches}
use Rattle.a64_asm.specs.Listing.{phrase, move_text, add_text, registers_text, access_text, branch_text, compare_text, system_name, system_text, raw_text}
use Rattle.a64_asm.specs.Operand.{Three, triple_of, triple_in, triple_with, is_same, trio_of, offset_of, offset_in, system_numbers, five_numbers, four_numbers, three_numbers, last_numbers, is_letter, is_name, signed_of, distance_of, target_of, words_to}
use Rattle.a64_asm.specs.Reading.{is_shift, moved, move_row, number_added, registers_added, add_row, combined, logical_row, transfer_of, transferred, accessed, access_row, branch_row, condition_row, compare_row, register_row, exception_row, is_system, system_said, system_row, word_row, alone, row_of, said_in, said_of}
use Rattle.a64_asm.specs.Source.{is_blank}
use Rattle.a64_asm.specs.declared.register.Register.{Register}
use Rattle.a64_asm.specs.declared.operand.Numbers.{Numbers}
use Rattle.a64_asm.specs.declared.label.Definition.{Definition}
use Rattle.a64_asm.specs.declared.said.Said.{Said}
use Rattle.a64_asm.specs.declared.said.Said.TheVariants.{Instruction, Raw}
use Rattle.a64_asm.specs.declared.mnemonic.Mnemonic.{Mnemonic}
use Rattle.a64_asm.specs.declared.mnemonic.Mnemonic.TheVariants.{Move, AddSub, Logical, Access, Branch, BranchIf, CompareBranch, BranchRegister, Exception, System, ExceptionReturn, Nop, Word}
use Rattle.a64_asm.proofs.LawfulWords.{all_below, at_below}
use Rattle.a64_asm.proofs.Spelled.{has_no, cut_at, not_cut, operand_cut, is_plain, plain, weaker, no_comma, no_bracket, no_line, all_digits, plain_decimal, number_read, register_read, plain_register, hex_read, plain_hex}

-- neither the end of a line nor the colon of a label
abbrev pub is_quiet : ℕ → Bool
is_quiet byte = not (byte == 10) && not (byte == 58)

abbrev pub quiet : List ℕ → Bool
quiet text = list_all is_quiet text

plain_quiet : (byte : ℕ) → is_plain byte ≡ true → is_quiet byte ≡ true
plain_quiet byte h = grind (arith, nat_tests)

hushed : (text : List ℕ) → plain text ≡ true → quiet text ≡ true
hushed text all = weaker is_plain is_quiet plain_quiet text all

joined : (a b : List ℕ) → quiet a ≡ true → quiet b ≡ true → quiet (a ++ b) ≡ true
joined a b one other = list_all-append is_quiet a b ∙ rw (one, other) refl

-- a first word is found, has no blank, and begins no comment
pub record IsName (name : Mnemonic) : Type 0 where
  pub found : mnemonic_of (name_of name) ≡ Some name
  pub whole : has_no 32 (name_of name) ≡ true
  pub hushed : quiet (name_of name) ≡ true
  pub begins : (others : List ℕ) → is_blank (name_of name ++ others) ≡ false

-- all but these three begin a line
abbrev pub is_used : Mnemonic → Bool
is_used (Logical Ands) = false
is_used (BranchIf condition.Al) = false
is_used (BranchIf condition.Nv) = false
is_used _ = true

pub name_read : (name : Mnemonic) → is_used name ≡ true → IsName name
unfolding mnemonic_of mnemonics branches
name_read (Move Movn) used = record { found = refl; whole = refl; hushed = refl; begins = λ others. refl }
name_read (Move Movz) used = record { found = refl; whole = refl; hushed = refl; begins = λ others. refl }
name_read (Move Movk) used = record { found = refl; whole = refl; hushed = refl; begins = λ others. refl }
name_read (AddSub false) used = record { found = refl; whole = refl; hushed = refl; begins = λ others. refl }
name_read (AddSub true) used = record { found = refl; whole = refl; hushed = refl; begins = λ others. refl }
name_read (Logical And) used = record { found = refl; whole = refl; hushed = refl; begins = λ others. refl }
name_read (Logical Orr) used = record { found = refl; whole = refl; hushed = refl; begins = λ others. refl }
name_read (Logical Eor) used = record { found = refl; whole = refl; hushed = refl; begins = λ others. refl }
name_read (Access true true) used = record { found = refl; whole = refl; hushed = refl; begins = λ others. refl }
name_read (Access true false) used = record { found = refl; whole = refl; hushed = refl; begins = λ others. refl }
name_read (Access false true) used = record { found = refl; whole = refl; hushed = refl; begins = λ others. refl }
name_read (Access false false) used = record { found = refl; whole = refl; hushed = refl; begins = λ others. refl }
name_read (Branch false) used = record { found = refl; whole = refl; hushed = refl; begins = λ others. refl }
name_read (Branch true) used = record { found = refl; whole = refl; hushed = refl; begins = λ others. refl }
name_read (BranchIf condition.Eq) used = record { found = refl; whole = refl; hushed = refl; begins = λ others. refl }
name_read (BranchIf condition.Ne) used = record { found = refl; whole = refl; hushed = refl; begins = λ others. refl }
name_read (BranchIf condition.Cs) used = record { found = refl; whole = refl; hushed = refl; begins = λ others. refl }
name_read (BranchIf condition.Cc) used = record { found = refl; whole = refl; hushed = refl; begins = λ others. refl }
name_read (BranchIf condition.Mi) used = record { found = refl; whole = refl; hushed = refl; begins = λ others. refl }
name_read (BranchIf condition.Pl) used = record { found = refl; whole = refl; hushed = refl; begins = λ others. refl }
name_read (BranchIf condition.Vs) used = record { found = refl; whole = refl; hushed = refl; begins = λ others. refl }
name_read (BranchIf condition.Vc) used = record { found = refl; whole = refl; hushed = refl; begins = λ others. refl }
name_read (BranchIf condition.Hi) used = record { found = refl; whole = refl; hushed = refl; begins = λ others. refl }
name_read (BranchIf condition.Ls) used = record { found = refl; whole = refl; hushed = refl; begins = λ others. refl }
name_read (BranchIf condition.Ge) used = record { found = refl; whole = refl; hushed = refl; begins = λ others. refl }
name_read (BranchIf condition.Lt) used = record { found = refl; whole = refl; hushed = refl; begins = λ others. refl }
name_read (BranchIf condition.Gt) used = record { found = refl; whole = refl; hushed = refl; begins = λ others. refl }
name_read (BranchIf condition.Le) used = record { found = refl; whole = refl; hushed = refl; begins = λ others. refl }
name_read (CompareBranch false) used = record { found = refl; whole = refl; hushed = refl; begins = λ others. refl }
name_read (CompareBranch true) used = record { found = refl; whole = refl; hushed = refl; begins = λ others. refl }
name_read (BranchRegister Br) used = record { found = refl; whole = refl; hushed = refl; begins = λ others. refl }
name_read (BranchRegister Blr) used = record { found = refl; whole = refl; hushed = refl; begins = λ others. refl }
name_read (BranchRegister Ret) used = record { found = refl; whole = refl; hushed = refl; begins = λ others. refl }
name_read (Exception Svc) used = record { found = refl; whole = refl; hushed = refl; begins = λ others. refl }
name_read (Exception Hvc) used = record { found = refl; whole = refl; hushed = refl; begins = λ others. refl }
name_read (Exception Smc) used = record { found = refl; whole = refl; hushed = refl; begins = λ others. refl }
name_read (Exception Brk) used = record { found = refl; whole = refl; hushed = refl; begins = λ others. refl }
name_read (System false) used = record { found = refl; whole = refl; hushed = refl; begins = λ others. refl }
name_read (System true) used = record { found = refl; whole = refl; hushed = refl; begins = λ others. refl }
name_read ExceptionReturn used = record { found = refl; whole = refl; hushed = refl; begins = λ others. refl }
name_read Nop used = record { found = refl; whole = refl; hushed = refl; begins = λ others. refl }
name_read Word used = record { found = refl; whole = refl; hushed = refl; begins = λ others. refl }
name_read (Logical Ands) used = cc
name_read (BranchIf condition.Al) used = cc
name_read (BranchIf condition.Nv) used = cc

-- a line that says this, whatever labels there are
pub record IsLineOf (text : List ℕ) (said : Said) : Type 0 where
  pub read : (labels : List ℕ → Option Definition) (place : ℕ) → said_of labels place text ≡ Ok said
  pub hushed : quiet text ≡ true
  pub begins : is_blank text ≡ false

phrase_line : (name : Mnemonic) (operands : List ℕ) (said : Said) → IsName name
    → ((labels : List ℕ → Option Definition) (place : ℕ) → row_of labels place (Some name) operands ≡ Ok said) → quiet operands ≡ true
    → IsLineOf (phrase name operands) said
unfolding said_of
phrase_line name operands said is row hush =
    record {
      read = λ labels place.
          ap (said_in labels place (phrase name operands)) (cut_at 32 (name_of name) operands is.whole)
          ∙ ap (λ n. row_of labels place n operands) is.found ∙ row labels place;
      hushed = joined (name_of name) (32 ∷ operands) is.hushed hush;
      begins = is.begins (32 ∷ operands);
    }

triple_read : (a b c : List ℕ) → has_no 44 a ≡ true → has_no 44 b ≡ true → triple_of (a ++ (comma ++ (b ++ (comma ++ c)))) ≡ Three a b c
unfolding triple_of
triple_read a b c one other =
    ap triple_in (operand_cut a (b ++ (comma ++ c)) one) ∙ ap (triple_with a) (operand_cut b c other)

-- three operands are as quiet as each
hushed_three : (a b c : List ℕ) → quiet a ≡ true → quiet b ≡ true → quiet c ≡ true → quiet (a ++ (comma ++ (b ++ (comma ++ c)))) ≡ true
hushed_three a b c one two three =
    joined a (comma ++ (b ++ (comma ++ c))) one (joined comma (b ++ (comma ++ c)) refl (joined b (comma ++ c) two (joined comma c refl three)))

hushed_two : (a b : List ℕ) → quiet a ≡ true → quiet b ≡ true → quiet (a ++ (comma ++ b)) ≡ true
hushed_two a b one two = joined a (comma ++ b) one (joined comma b refl two)

same_again : (wide : Bool) → is_same wide wide ≡ true
same_again true = refl
same_again false = refl

below : (n m : ℕ) → n < m → nat_lt n m ≡ true
below n m low = lt-ltb n m low

shift_back : (wide : Bool) (hw : ℕ) → 16 * hw < (if wide then 64 else 32) → is_shift wide (16 * hw) ≡ true
shift_back true zero low = refl
shift_back true (suc zero) low = refl
shift_back true (suc (suc zero)) low = refl
shift_back true (suc (suc (suc zero))) low = refl
shift_back true (suc (suc (suc (suc hw)))) low = absurd (omega arith)
shift_back false zero low = refl
shift_back false (suc zero) low = refl
shift_back false (suc (suc hw)) low = absurd (omega arith)

chosen : {A : Type 0} (b : Bool) (x y : A) → b ≡ true → (if b then x else y) ≡ x
chosen true x y h = refl
chosen false x y h = cc

small_shift : (wide : Bool) (hw : ℕ) → 16 * hw < (if wide then 64 else 32) → 16 * hw < 2 ^ 64
small_shift true hw low = omega arith
small_shift false hw low = omega arith

moved_back : (kind : MoveKind) (wide : Bool) (hw imm16 : ℕ) (rd : Reg) → 16 * hw < (if wide then 64 else 32) → imm16 < 2 ^ 16
    → moved kind (Some (named wide rd.0)) (Some imm16) (Some (16 * hw)) ≡ Ok (Instruction (instr.MoveWide wide kind hw imm16 rd))
moved_back kind wide hw imm16 rd low few =
    let same : 16 * hw / 16 ≡ hw = omega arith in
    chosen (nat_lt imm16 65536 && is_shift wide (16 * hw)) _ (Err 2)
    (and_from (nat_lt imm16 65536) (is_shift wide (16 * hw)) (below imm16 65536 few) (shift_back wide hw low))
    ∙ ap (λ h. Ok (Instruction (instr.MoveWide wide kind h imm16 rd))) same

pub move_line : (kind : MoveKind) (wide : Bool) (hw imm16 : ℕ) (rd : Reg) → 16 * hw < (if wide then 64 else 32) → imm16 < 2 ^ 16 → rd.0 < 32
    → IsLineOf (move_text kind wide hw imm16 rd) (Instruction (instr.MoveWide wide kind hw imm16 rd))
unfolding move_text row_of
move_line kind wide hw imm16 rd low few reg =
    let r = register_text false wide rd in
    let pr = plain_register false wide rd reg in
    let pi = plain_decimal imm16 (omega (arith, few)) in
    let ps = plain_decimal (16 * hw) (small_shift wide hw low) in
    phrase_line (Move kind) (r ++ (comma ++ (decimal imm16 ++ (comma ++ decimal (16 * hw))))) _ (name_read (Move kind) refl)
    (λ labels place.
    ap (move_row kind) (triple_read r (decimal imm16) (decimal (16 * hw)) (no_comma r pr) (no_comma (decimal imm16) pi))
    ∙ rw (register_read false wide rd reg, number_read imm16 (omega (arith, few)), number_read (16 * hw) (small_shift wide hw low)) (moved_back kind wide hw imm16 rd low few))
    (hushed_three r (decimal imm16) (decimal (16 * hw)) (hushed r pr) (hushed (decimal imm16) pi) (hushed (decimal (16 * hw)) ps))

number_added_back : (subtract wide : Bool) (imm12 : ℕ) (rn rd : Reg) → imm12 < 2 ^ 12
    → number_added subtract (Some (named wide rd.0)) (Some (named wide rn.0)) imm12
    ≡ Ok (Instruction (instr.AddSubImmediate wide subtract false false imm12 rn rd))
number_added_back subtract wide imm12 rn rd few =
    chosen (is_same wide wide) _ (Err 1) (same_again wide) ∙ chosen (nat_lt imm12 4096) _ (Err 2) (below imm12 4096 few)

add_name : (subtract : Bool) → IsName (AddSub subtract)
add_name true = name_read (AddSub true) refl
add_name false = name_read (AddSub false) refl

pub add_line : (subtract wide : Bool) (imm12 : ℕ) (rn rd : Reg) → imm12 < 2 ^ 12 → rn.0 < 32 → rd.0 < 32
    → IsLineOf (add_text subtract wide imm12 rn rd) (Instruction (instr.AddSubImmediate wide subtract false false imm12 rn rd))
unfolding add_text row_of
add_line subtract wide imm12 rn rd few n d =
    let a = register_text true wide rd in
    let b = register_text true wide rn in
    let pa = plain_register true wide rd d in
    let pb = plain_register true wide rn n in
    let pi = plain_decimal imm12 (omega (arith, few)) in
    phrase_line (AddSub subtract) (a ++ (comma ++ (b ++ (comma ++ decimal imm12)))) _ (add_name subtract)
    (λ labels place.
    ap (add_row subtract) (triple_read a b (decimal imm12) (no_comma a pa) (no_comma b pb))
    ∙ rw (number_read imm12 (omega (arith, few)), register_read true wide rd d, register_read true wide rn n) (number_added_back subtract wide imm12 rn rd few))
    (hushed_three a b (decimal imm12) (hushed a pa) (hushed b pb) (hushed (decimal imm12) pi))

-- no register's name is a number
none_is : (n : Option ℕ) → is_none n ≡ true → n ≡ None
none_is None h = refl
none_is (Some n) h = cc

abbrev is_no_number : Bool → ℕ → Bool
is_no_number wide n = is_none (number_of (register_text false wide (record { 0 = n })))

no_wide_number : all_below 32 (is_no_number true) ≡ true
unfolding number_of register_text digits
no_wide_number = refl

no_narrow_number : all_below 32 (is_no_number false) ≡ true
unfolding number_of register_text digits
no_narrow_number = refl

no_numbers : (wide : Bool) → all_below 32 (is_no_number wide) ≡ true
no_numbers true = no_wide_number
no_numbers false = no_narrow_number

no_number : (wide : Bool) (register : Reg) → register.0 < 32 → number_of (register_text false wide register) ≡ None
no_number wide register low = none_is _ (at_below 32 (is_no_number wide) (no_numbers wide) register.0 low)

trio_back : (wide : Bool) (rm rn rd : Reg)
    → trio_of (Some (named wide rd.0)) (Some (named wide rn.0)) (Some (named wide rm.0)) ≡ Some (record { wide = wide; rd = rd; rn = rn; rm = rm })
trio_back wide rm rn rd =
    chosen (is_same wide wide && is_same wide wide) _ None (and_from (is_same wide wide) (is_same wide wide) (same_again wide) (same_again wide))

-- three registers, with what the row makes of them
registers_line : (name : Mnemonic) (said : Said) (wide : Bool) (rm rn rd : Reg) → IsName name → rm.0 < 32 → rn.0 < 32 → rd.0 < 32
    → ((labels : List ℕ → Option Definition) (place : ℕ) (text : List ℕ)
    → triple_of text ≡ Three (register_text false wide rd) (register_text false wide rn) (register_text false wide rm)
    → row_of labels place (Some name) text ≡ Ok said)
    → IsLineOf (registers_text name wide rm rn rd) said
unfolding registers_text
registers_line name said wide rm rn rd is m n d row =
    let a = register_text false wide rd in
    let b = register_text false wide rn in
    let c = register_text false wide rm in
    let pa = plain_register false wide rd d in
    let pb = plain_register false wide rn n in
    let pc = plain_register false wide rm m in
    phrase_line name (a ++ (comma ++ (b ++ (comma ++ c)))) said is
    (λ labels place. row labels place (a ++ (comma ++ (b ++ (comma ++ c)))) (triple_read a b c (no_comma a pa) (no_comma b pb)))
    (hushed_three a b c (hushed a pa) (hushed b pb) (hushed c pc))

pub added_line : (subtract wide : Bool) (rm rn rd : Reg) → rm.0 < 32 → rn.0 < 32 → rd.0 < 32
    → IsLineOf (registers_text (AddSub subtract) wide rm rn rd) (Instruction (instr.AddSubShifted wide subtract false Lsl rm 0 rn rd))
unfolding row_of
added_line subtract wide rm rn rd m n d =
    registers_line (AddSub subtract) _ wide rm rn rd (add_name subtract) m n d
    (λ labels place text three.
    ap (add_row subtract) three
    ∙ rw (no_number wide rm m, register_read false wide rd d, register_read false wide rn n, register_read false wide rm m)
    (ap (registers_added subtract) (trio_back wide rm rn rd)))

pub logical_line : (kind : LogicalKind) (wide : Bool) (rm rn rd : Reg) → IsName (Logical kind) → rm.0 < 32 → rn.0 < 32 → rd.0 < 32
    → IsLineOf (registers_text (Logical kind) wide rm rn rd) (Instruction (instr.LogicalShifted wide kind Lsl false rm 0 rn rd))
unfolding row_of
logical_line kind wide rm rn rd is m n d =
    registers_line (Logical kind) _ wide rm rn rd is m n d
    (λ labels place text three.
    ap (logical_row kind) three
    ∙ rw (register_read false wide rd d, register_read false wide rn n, register_read false wide rm m)
    (ap (combined kind) (trio_back wide rm rn rd)))

offset_read : (n : ℕ) → n < 2 ^ 64 → offset_of (decimal n ++ codes "]") ≡ Some n
unfolding offset_of
offset_read n low = ap offset_in (cut_at 93 (decimal n) [] (no_bracket (decimal n) (plain_decimal n low))) ∙ number_read n low

pub transferred_back : (load : Bool) (size : Size) (offset imm12 : ℕ) (rt base : Register) → imm12 < 2 ^ 12
    → offset % 2 ^ scale_of size ≡ 0 → offset / 2 ^ scale_of size ≡ imm12
    → transferred load size rt base offset ≡ Ok (Instruction (instr.LoadStoreUnsigned size (transfer_of load) imm12 base.reg rt.reg))
transferred_back load size offset imm12 rt base few whole count =
    let bytes : ℕ = 2 ^ scale_of size in
    chosen ((offset % bytes == 0) && nat_lt (offset / bytes) 4096) _ (Err 2)
    (and_from (offset % bytes == 0) (nat_lt (offset / bytes) 4096) (eq-eqb (offset % bytes) 0 whole) (below (offset / bytes) 4096 (omega (arith, count, few))))
    ∙ ap (λ n. Ok (Instruction (instr.LoadStoreUnsigned size (transfer_of load) n base.reg rt.reg))) count

access_name : (load byte : Bool) → IsName (Access load byte)
access_name true true = name_read (Access true true) refl
access_name true false = name_read (Access true false) refl
access_name false true = name_read (Access false true) refl
access_name false false = name_read (Access false false) refl

pub access_line : (load byte wide : Bool) (offset : ℕ) (rn rt : Reg) (said : Said) → offset < 2 ^ 64 → rn.0 < 32 → rt.0 < 32
    → accessed load byte (named wide rt.0) (named true rn.0) offset ≡ Ok said
    → IsLineOf (access_text (Access load byte) wide offset rn rt) said
unfolding access_text row_of
access_line load byte wide offset rn rt said low n t is =
    let a = register_text false wide rt in
    let r = register_text true true rn in
    let b = codes "[" ++ r in
    let pa = plain_register false wide rt t in
    let pr = plain_register true true rn n in
    let pd = plain_decimal offset low in
    phrase_line (Access load byte) (a ++ (comma ++ (b ++ (comma ++ (decimal offset ++ codes "]"))))) said (access_name load byte)
    (λ labels place.
    ap (access_row load byte) (triple_read a b (decimal offset ++ codes "]") (no_comma a pa) (no_comma r pr))
    ∙ rw (register_read false wide rt t, register_read true true rn n, offset_read offset low) is)
    (hushed_three a b (decimal offset ++ codes "]") (hushed a pa) (hushed r pr) (joined (decimal offset) (codes "]") (hushed (decimal offset) pd) refl))

-- an offset is no label
digit_no_letter : (digit : ℕ) → is_ascii_digit digit ≡ true → is_letter digit ≡ false
digit_no_letter digit h = grind (arith, nat_tests)

digit_no_sign : (digit : ℕ) → is_ascii_digit digit ≡ true → (digit == 45) ≡ false
digit_no_sign digit h = grind (arith, nat_tests)

abbrev IsUnsigned : List ℕ → Type 0
IsUnsigned text = (is_name text ≡ false) × (signed_of text ≡ distance_of false (number_of text))

unsigned_text : (text : List ℕ) → 0 < length text → list_all is_ascii_digit text ≡ true → IsUnsigned text
unfolding is_name
unsigned_text [] some all = absurd (omega arith)
unsigned_text (first ∷ rest) some all =
    let digit = (and_parts (is_ascii_digit first) (list_all is_ascii_digit rest) all).0 in (
      rw (digit_no_letter first digit) refl,
      rw (digit_no_sign first digit) refl,
    )

forward : (labels : List ℕ → Option Definition) (place n : ℕ) → n < 2 ^ 64
    → target_of labels place (decimal n) ≡ Ok (record { back = false; bytes = n })
unfolding target_of
forward labels place n low =
    let facts = unsigned_text (decimal n) (decimal_nonempty n low) (all_digits n low) in
    rw facts.0 (facts.1 ∙ ap (distance_of false) (number_read n low))

backward : (labels : List ℕ → Option Definition) (place n : ℕ) → n < 2 ^ 64
    → target_of labels place (45 ∷ decimal n) ≡ Ok (record { back = true; bytes = n })
unfolding target_of is_name
backward labels place n low = ap (distance_of true) (number_read n low)

whole_words : (words : ℕ) → (4 * words % 4 == 0) ≡ true
whole_words words = eq-eqb (4 * words % 4) 0 (omega arith)

four : (words : ℕ) → 4 * words / 4 ≡ words
four words = omega arith

forward_words : (width words : ℕ) → 4 * words < 2 ^ (width + 1) → words_to width (Ok (record { back = false; bytes = 4 * words })) ≡ Ok words
unfolding words_to
forward_words width words low =
    chosen ((4 * words % 4 == 0) && nat_lt (4 * words) (2 ^ (width + 1))) _ (Err 2)
    (and_from (4 * words % 4 == 0) (nat_lt (4 * words) (2 ^ (width + 1))) (whole_words words) (below (4 * words) (2 ^ (width + 1)) low))
    ∙ ap (λ n. Ok n) (four words)

some_words : (words : ℕ) → 0 < words → nat_lt 0 (4 * words / 4) ≡ true
some_words words some = below 0 (4 * words / 4) (omega (arith, four words))

backward_words : (width words : ℕ) → 0 < words → 4 * words ≤ 2 ^ (width + 1)
    → words_to width (Ok (record { back = true; bytes = 4 * words })) ≡ Ok (2 ^ 64 - words)
unfolding words_to
backward_words width words some low =
    chosen ((4 * words % 4 == 0) && nat_le (4 * words) (2 ^ (width + 1))) _ (Err 2)
    (and_from (4 * words % 4 == 0) (nat_le (4 * words) (2 ^ (width + 1))) (whole_words words) (le-leb (4 * words) (2 ^ (width + 1)) low))
    ∙ ap (λ b. Ok (if b then 2 ^ 64 - 4 * words / 4 else 4 * words / 4)) (some_words words some)
    ∙ ap (λ n. Ok (2 ^ 64 - n)) (four words)

-- what an offset's text is: forward, or back with a sign
forward_text : (offset : ℕ) → offset < 2 ^ 63 → offset_text offset ≡ decimal (4 * offset)
unfolding offset_text
forward_text offset low = rw (below offset (2 ^ 63) low) refl

not_below : (offset limit : ℕ) → limit ≤ offset → nat_lt offset limit ≡ false
not_below offset limit high = grind (arith, nat_tests)

backward_text : (offset : ℕ) → 2 ^ 63 ≤ offset → offset_text offset ≡ 45 ∷ decimal (4 * (2 ^ 64 - offset))
unfolding offset_text
backward_text offset high = rw (not_below offset (2 ^ 63) high) refl

-- an offset is read as it is, and is quiet
pub record IsOffsetText (width offset : ℕ) (text : List ℕ) : Type 0 where
  pub read : (labels : List ℕ → Option Definition) (place : ℕ) → words_to width (target_of labels place text) ≡ Ok offset
  pub hush : quiet text ≡ true

forward_offset : (width offset : ℕ) → 4 * offset < 2 ^ (width + 1) → 4 * offset < 2 ^ 63 → IsOffsetText width offset (offset_text offset)
forward_offset width offset low few =
    let same = forward_text offset (omega (arith, few)) in
    let fits : 4 * offset < 2 ^ 64 = omega (arith, few) in
    subst (IsOffsetText width offset) (sym same)
    (record {
      read = λ labels place. ap (words_to width) (forward labels place (4 * offset) fits) ∙ forward_words width offset low;
      hush = hushed (decimal (4 * offset)) (plain_decimal (4 * offset) fits);
    })

backward_offset : (width offset : ℕ) → 2 ^ 64 - 2 ^ 61 ≤ offset → offset < 2 ^ 64 → 4 * (2 ^ 64 - offset) ≤ 2 ^ (width + 1)
    → IsOffsetText width offset (offset_text offset)
backward_offset width offset high low near =
    let same = backward_text offset (omega (arith, high)) in
    let fits : 4 * (2 ^ 64 - offset) < 2 ^ 64 = omega (arith, high) in
    let all : 2 ^ 64 - (2 ^ 64 - offset) ≡ offset = omega (arith, low) in
    subst (IsOffsetText width offset) (sym same)
    (record {
      read = λ labels place.
          ap (words_to width) (backward labels place (4 * (2 ^ 64 - offset)) fits)
          ∙ backward_words width (2 ^ 64 - offset) (omega (arith, low)) near ∙ ap (λ n. Ok n) all;
      hush = hushed_sign (4 * (2 ^ 64 - offset)) fits;
    })
  where
    hushed_sign : (n : ℕ) → n < 2 ^ 64 → quiet (45 ∷ decimal n) ≡ true
    hushed_sign n l = hushed (decimal n) (plain_decimal n l)

offset-26 : (offset : ℕ) → IsSigned 26 offset → IsOffsetText 26 offset (offset_text offset)
offset-26 offset (inl low) = forward_offset 26 offset (omega (arith, low)) (omega (arith, low))
offset-26 offset (inr high) = backward_offset 26 offset (omega (arith, high.0)) high.1 (omega (arith, high.0, high.1))

offset-19 : (offset : ℕ) → IsSigned 19 offset → IsOffsetText 19 offset (offset_text offset)
offset-19 offset (inl low) = forward_offset 19 offset (omega (arith, low)) (omega (arith, low))
offset-19 offset (inr high) = backward_offset 19 offset (omega (arith, high.0)) high.1 (omega (arith, high.0, high.1))

branch_name : (link : Bool) → IsName (Branch link)
branch_name true = name_read (Branch true) refl
branch_name false = name_read (Branch false) refl

pub branch_line : (link : Bool) (offset : ℕ) → IsSigned 26 offset
    → IsLineOf (branch_text (Branch link) offset) (Instruction (instr.Branch link offset))
unfolding branch_text row_of
branch_line link offset signed =
    let is = offset-26 offset signed in
    phrase_line (Branch link) (offset_text offset) _ (branch_name link) (λ labels place. ap (branch_row link) (is.read labels place)) is.hush

pub condition_line : (cond : Condition) (offset : ℕ) → IsName (BranchIf cond) → IsSigned 19 offset
    → IsLineOf (branch_text (BranchIf cond) offset) (Instruction (instr.BranchConditional offset cond))
unfolding branch_text row_of
condition_line cond offset name signed =
    let is = offset-19 offset signed in
    phrase_line (BranchIf cond) (offset_text offset) _ name (λ labels place. ap (condition_row cond) (is.read labels place)) is.hush

compare_name : (nonzero : Bool) → IsName (CompareBranch nonzero)
compare_name true = name_read (CompareBranch true) refl
compare_name false = name_read (CompareBranch false) refl

pub compare_line : (nonzero wide : Bool) (offset : ℕ) (rt : Reg) → IsSigned 19 offset → rt.0 < 32
    → IsLineOf (compare_text nonzero wide offset rt) (Instruction (instr.CompareBranch wide nonzero offset rt))
unfolding compare_text row_of
compare_line nonzero wide offset rt signed low =
    let is = offset-19 offset signed in
    let r = register_text false wide rt in
    let pr = plain_register false wide rt low in
    phrase_line (CompareBranch nonzero) (r ++ (comma ++ offset_text offset)) _ (compare_name nonzero)
    (λ labels place.
    ap (compare_row labels place nonzero) (operand_cut r (offset_text offset) (no_comma r pr))
    ∙ rw (register_read false wide rt low, is.read labels place) refl)
    (hushed_two r (offset_text offset) (hushed r pr) is.hush)

to_name : (kind : BranchKind) → IsName (BranchRegister kind)
to_name Br = name_read (BranchRegister Br) refl
to_name Blr = name_read (BranchRegister Blr) refl
to_name Ret = name_read (BranchRegister Ret) refl

pub to_register_line : (kind : BranchKind) (rn : Reg) → rn.0 < 32
    → IsLineOf (phrase (BranchRegister kind) (register_text false true rn)) (Instruction (instr.BranchRegister kind rn))
unfolding row_of
to_register_line kind rn low =
    phrase_line (BranchRegister kind) (register_text false true rn) _ (to_name kind)
    (λ labels place. ap (register_row kind) (register_read false true rn low))
    (hushed (register_text false true rn) (plain_register false true rn low))

exception_name : (kind : ExceptionKind) → IsName (Exception kind)
exception_name Svc = name_read (Exception Svc) refl
exception_name Hvc = name_read (Exception Hvc) refl
exception_name Smc = name_read (Exception Smc) refl
exception_name Brk = name_read (Exception Brk) refl

pub exception_line : (kind : ExceptionKind) (imm16 : ℕ) → imm16 < 2 ^ 16
    → IsLineOf (phrase (Exception kind) (decimal imm16)) (Instruction (instr.Exception kind imm16))
unfolding row_of
exception_line kind imm16 low =
    let fits : imm16 < 2 ^ 64 = omega (arith, low) in
    phrase_line (Exception kind) (decimal imm16) _ (exception_name kind)
    (λ labels place.
    ap (exception_row kind) (number_read imm16 fits)
    ∙ chosen (nat_lt imm16 65536) (Ok (Instruction (instr.Exception kind imm16))) (Err 2) (below imm16 65536 low))
    (hushed (decimal imm16) (plain_decimal imm16 fits))

-- the name of a system register
abbrev numbers_in : SysId → Numbers
numbers_in id = record { op0 = id.op0; op1 = id.op1; crn = id.crn; crm = id.crm; op2 = id.op2 }

no_line_in : (n : ℕ) → n < 2 ^ 64 → has_no 95 (decimal n) ≡ true
no_line_in n low = no_line (decimal n) (plain_decimal n low)

pub system_read : (id : SysId) → IsSysId id → system_numbers (system_name id) ≡ Some (numbers_in id)
unfolding system_numbers system_name
system_read id is =
    let a : id.op0 < 2 ^ 64 = omega (arith, is.1) in
    let b : id.op1 < 2 ^ 64 = omega (arith, is.2) in
    let c : id.crn < 2 ^ 64 = omega (arith, is.3) in
    let d : id.crm < 2 ^ 64 = omega (arith, is.4) in
    let e : id.op2 < 2 ^ 64 = omega (arith, is.5) in
    let last = decimal id.op2 in
    let crm = codes "c" ++ (decimal id.crm ++ (codes "_" ++ last)) in
    let crn = codes "c" ++ (decimal id.crn ++ (codes "_" ++ crm)) in
    let op1 = decimal id.op1 ++ (codes "_" ++ crn) in
    ap five_numbers (cut_at 95 (115 ∷ decimal id.op0) op1 (no_line_in id.op0 a))
    ∙ ap (four_numbers (number_of (decimal id.op0))) (cut_at 95 (decimal id.op1) crn (no_line_in id.op1 b))
    ∙ ap (three_numbers (number_of (decimal id.op0)) (number_of (decimal id.op1))) (cut_at 95 (99 ∷ decimal id.crn) crm (no_line_in id.crn c))
    ∙ ap (last_numbers (number_of (decimal id.op0)) (number_of (decimal id.op1)) (99 ∷ decimal id.crn)) (cut_at 95 (99 ∷ decimal id.crm) last (no_line_in id.crm d))
    ∙ rw (number_read id.op0 a, number_read id.op1 b, number_read id.crn c, number_read id.crm d, number_read id.op2 e) refl

system_admitted : (id : SysId) → IsSysId id → is_system (numbers_in id) ≡ true
system_admitted id is =
    let one : ((id.op0 == 2) || (id.op0 == 3)) ≡ true = two_or_three id.op0 is.0 is.1 in
    and_from _ (nat_lt id.op2 8)
    (and_from _ (nat_lt id.crm 16)
    (and_from _ (nat_lt id.crn 16) (and_from _ (nat_lt id.op1 8) one (below id.op1 8 is.2)) (below id.crn 16 is.3))
    (below id.crm 16 is.4))
    (below id.op2 8 is.5)
  where
    two_or_three : (n : ℕ) → 2 ≤ n → n < 4 → ((n == 2) || (n == 3)) ≡ true
    two_or_three zero low high = absurd (omega arith)
    two_or_three (suc zero) low high = absurd (omega arith)
    two_or_three (suc (suc zero)) low high = refl
    two_or_three (suc (suc (suc zero))) low high = refl
    two_or_three (suc (suc (suc (suc n)))) low high = absurd (omega arith)

-- small letters, digits and `_`
abbrev is_linked : ℕ → Bool
is_linked byte = is_plain byte || (byte == 95)

plain_linked : (byte : ℕ) → is_plain byte ≡ true → is_linked byte ≡ true
plain_linked byte h = rw h refl

linked_no_comma : (byte : ℕ) → is_linked byte ≡ true → not (byte == 44) ≡ true
linked_no_comma byte h = grind (arith, nat_tests)

linked_quiet : (byte : ℕ) → is_linked byte ≡ true → is_quiet byte ≡ true
linked_quiet byte h = grind (arith, nat_tests)

linked_join : (a b : List ℕ) → list_all is_linked a ≡ true → list_all is_linked b ≡ true → list_all is_linked (a ++ b) ≡ true
linked_join a b one other = list_all-append is_linked a b ∙ rw (one, other) refl

linked_decimal : (n : ℕ) → n < 2 ^ 64 → list_all is_linked (decimal n) ≡ true
linked_decimal n low = weaker is_plain is_linked plain_linked (decimal n) (plain_decimal n low)

linked_name : (id : SysId) → IsSysId id → list_all is_linked (system_name id) ≡ true
unfolding system_name
linked_name id is =
    let last = decimal id.op2 in
    let crm = decimal id.crm ++ (codes "_" ++ last) in
    let crn = decimal id.crn ++ (codes "_c" ++ crm) in
    let op1 = decimal id.op1 ++ (codes "_c" ++ crn) in
    let l5 = linked_join (codes "_") last refl (linked_decimal id.op2 (omega (arith, is.5))) in
    let l4 = linked_join (codes "_c") crm refl (linked_join (decimal id.crm) (codes "_" ++ last) (linked_decimal id.crm (omega (arith, is.4))) l5) in
    let l3 = linked_join (codes "_c") crn refl (linked_join (decimal id.crn) (codes "_c" ++ crm) (linked_decimal id.crn (omega (arith, is.3))) l4) in
    let l2 = linked_join (codes "_") op1 refl (linked_join (decimal id.op1) (codes "_c" ++ crn) (linked_decimal id.op1 (omega (arith, is.2))) l3) in
    linked_join (codes "s") (decimal id.op0 ++ (codes "_" ++ op1)) refl
    (linked_join (decimal id.op0) (codes "_" ++ op1) (linked_decimal id.op0 (omega (arith, is.1))) l2)

system_back : (read : Bool) (id : SysId) (rt : Reg) → IsSysId id
    → system_said read (Some (numbers_in id)) (Some (named true rt.0)) ≡ Ok (Instruction (instr.SystemRegister read id rt))
system_back read id rt is =
    chosen (is_system (numbers_in id)) (Ok (Instruction (instr.SystemRegister read id rt))) (Err 2) (system_admitted id is)

pub system_line : (read : Bool) (id : SysId) (rt : Reg) → IsSysId id → rt.0 < 32
    → IsLineOf (system_text read id rt) (Instruction (instr.SystemRegister read id rt))
unfolding system_text row_of
system_line true id rt is low =
    let r = register_text false true rt in
    let pr = plain_register false true rt low in
    let hush = weaker is_linked is_quiet linked_quiet (system_name id) (linked_name id is) in
    phrase_line (System true) (r ++ (comma ++ system_name id)) _ (name_read (System true) refl)
    (λ labels place.
    ap (system_row true) (operand_cut r (system_name id) (no_comma r pr))
    ∙ rw (system_read id is, register_read false true rt low) (system_back true id rt is))
    (hushed_two r (system_name id) (hushed r pr) hush)
system_line false id rt is low =
    let r = register_text false true rt in
    let pr = plain_register false true rt low in
    let hush = weaker is_linked is_quiet linked_quiet (system_name id) (linked_name id is) in
    let none = weaker is_linked (λ one. not (one == 44)) linked_no_comma (system_name id) (linked_name id is) in
    phrase_line (System false) (system_name id ++ (comma ++ r)) _ (name_read (System false) refl)
    (λ labels place.
    ap (system_row false) (operand_cut (system_name id) r none)
    ∙ rw (system_read id is, register_read false true rt low) (system_back false id rt is))
    (hushed_two (system_name id) r hush (hushed r pr))

-- a first word alone
pub return_line : IsLineOf (name_of ExceptionReturn) (Instruction instr.ExceptionReturn)
unfolding said_of
return_line =
    let is = name_read ExceptionReturn refl in
    record {
      read = λ labels place.
          ap (said_in labels place (name_of ExceptionReturn)) (not_cut 32 (name_of ExceptionReturn) is.whole) ∙ ap alone is.found;
      hushed = is.hushed;
      begins = refl;
    }

pub nop_line : IsLineOf (name_of Nop) (Instruction (instr.Hint 0 0))
unfolding said_of
nop_line =
    let is = name_read Nop refl in
    record {
      read = λ labels place. ap (said_in labels place (name_of Nop)) (not_cut 32 (name_of Nop) is.whole) ∙ ap alone is.found;
      hushed = is.hushed;
      begins = refl;
    }

pub raw_line : (word : ℕ) → word < 2 ^ 32 → IsLineOf (raw_text word) (Raw word)
unfolding raw_text row_of
raw_line word low =
    phrase_line Word (hex 8 word) _ (name_read Word refl) (λ labels place. ap word_row (hex_read word low))
    (hushed (hex 8 word) (plain_hex 8 word))
