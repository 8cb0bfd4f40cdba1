-- What a line says is an instruction whose fields fit their bits.
use Rattle.std.proofs.Common.{◌≡◌, ℕ, ◌-◌, ◌*◌, ◌/◌, ◌%◌, ◌^◌, ◌<◌, ◌≤◌, Bool, true, false, ◌&&◌, List, [], ◌∷◌, refl, subst, arith, inl, inr}
use Rattle.std.specs.Prelude.{Option, None, Some, Result, Ok, Err, nat_lt, nat_le, ◌==◌, if◌then◌else◌}
use Rattle.std.specs.Str.{bytes_eq}
use Rattle.std.proofs.lemmas.Bool.{ltb-true, leb-true, and_parts}
use Rattle.std.proofs.lemmas.Bool.Decides.{nat_tests}
use Rattle.a64_decode.specs.declared.operand.LogicalKind.{LogicalKind}
use Rattle.a64_decode.specs.declared.operand.MoveKind.{MoveKind}
use Rattle.a64_decode.specs.declared.operand.BranchKind.{BranchKind}
use Rattle.a64_decode.specs.declared.operand.ExceptionKind.{ExceptionKind}
use Rattle.a64_decode.specs.declared.operand.Condition.{Condition}
use Rattle.a64_decode.specs.declared.operand.Size.{Size}
use Rattle.a64_decode.specs.declared.operand.Size.TheVariants as size
use Rattle.a64_decode.specs.Lawful.{IsSigned, has_no_transfer, width_of}
use Rattle.a64_decode.specs.Access.{scale_of}
use Rattle.a64_asm.specs.Text.{Cut, Whole, Parts, cut_of, operand_of}
use Rattle.numerals.specs.Numeral.{number_of}
use Rattle.a64_asm.specs.Number.{hex_word_of}
use Rattle.a64_asm.specs.Register.{last_name, letter_of, named, numbered, lettered, register_of}
use Rattle.a64_asm.specs.Mnemonic.{mnemonic_of}
use Rattle.a64_asm.specs.Operand.{Triple, Fewer, Three, triple_of, is_same, trio_of, base_of, offset_of, system_numbers, target_of, words_in, fits_field, words_to}
use Rattle.a64_asm.specs.Reading.{is_shift, moved, move_row, number_added, registers_added, added, add_row, combined, logical_row, transfer_of, transferred, accessed, access, access_row, branch_row, condition_row, compared, compare_row, register_row, exception_row, is_system, system_said, system_row, word_row, alone, row_of, said_in, said_of}
use Rattle.a64_asm.specs.Source.{IsSayable}
use Rattle.a64_asm.specs.declared.register.Register.{Register}
use Rattle.a64_asm.specs.declared.operand.Trio.{Trio}
use Rattle.a64_asm.specs.declared.operand.Numbers.{Numbers}
use Rattle.a64_asm.specs.declared.operand.Distance.{Distance}
use Rattle.a64_asm.specs.declared.label.Definition.{Definition}
use Rattle.a64_asm.specs.declared.said.Said.{Said}
use Rattle.a64_asm.specs.declared.mnemonic.Mnemonic.{Mnemonic}
use Rattle.a64_asm.specs.declared.mnemonic.Mnemonic.TheVariants.{Move, AddSub, Logical, Access, Branch, BranchIf, CompareBranch, BranchRegister, Exception, System, ExceptionReturn, Nop, Word}

-- a register that was read has a number below 32
abbrev pub IsGood : Option Register → Type 0
IsGood None = Unit {0}
IsGood (Some register) = register.reg.0 < 32

good_if : (b : Bool) (x y : Option Register) → IsGood x → IsGood y → IsGood (if b then x else y)
good_if true x y one other = one
good_if false x y one other = other

good_numbered : (wide : Bool) (number : Option ℕ) → IsGood (numbered wide number)
good_numbered wide None = tt
good_numbered wide (Some number) = by_test (nat_lt number 31) refl
  where
    by_test : (b : Bool) → nat_lt number 31 ≡ b → IsGood (if b then Some (named wide number) else None)
    by_test true e = omega (arith, ltb-true number 31 e)
    by_test false e = tt

good_lettered : (text : List ℕ) → IsGood (lettered text)
good_lettered [] = tt
good_lettered (letter ∷ digits) =
    good_if (letter == letter_of true) _ _ (good_numbered true (number_of digits))
    (good_if (letter == letter_of false) _ None (good_numbered false (number_of digits)) tt)

pub good_register : (stack : Bool) (text : List ℕ) → IsGood (register_of stack text)
unfolding register_of
good_register stack text =
    good_if (bytes_eq text (last_name stack true)) (Some (named true 31)) _ (omega arith)
    (good_if (bytes_eq text (last_name stack false)) (Some (named false 31)) _ (omega arith) (good_lettered text))

good_base : (text : List ℕ) → IsGood (base_of text)
good_base [] = tt
good_base (first ∷ name) = good_if (first == 91) (register_of true name) None (good_register true name) tt

abbrev pub IsGoodTrio : Option Trio → Type 0
IsGoodTrio None = Unit {0}
IsGoodTrio (Some trio) = (trio.rd.0 < 32) × (trio.rn.0 < 32) × (trio.rm.0 < 32)

good_trio : (first second third : Option Register) → IsGood first → IsGood second → IsGood third → IsGoodTrio (trio_of first second third)
good_trio None second third one two three = tt
good_trio (Some first) None third one two three = tt
good_trio (Some first) (Some second) None one two three = tt
good_trio (Some first) (Some second) (Some third) one two three = by_width (is_same first.wide second.wide && is_same first.wide third.wide)
  where
    by_width : (b : Bool)
        → IsGoodTrio (if b then Some (record { wide = first.wide; rd = first.reg; rn = second.reg; rm = third.reg }) else None)
    by_width true = (one, two, three)
    by_width false = tt

-- what is said can be said
abbrev pub IsFine : Result Said ℕ → Type 0
IsFine (Err rule) = Unit {0}
IsFine (Ok said) = IsSayable said

fine_if : (b : Bool) (x y : Result Said ℕ) → (b ≡ true → IsFine x) → IsFine y → IsFine (if b then x else y)
fine_if true x y one other = one refl
fine_if false x y one other = other

some_width : (wide : Bool) → 0 < width_of wide
some_width true = omega arith
some_width false = omega arith

shift_fits : (wide : Bool) (shift : ℕ) → is_shift wide shift ≡ true → 16 * (shift / 16) < width_of wide
shift_fits true shift h = grind (arith, nat_tests)
shift_fits false shift h = grind (arith, nat_tests)

fine_moved : (kind : MoveKind) (rd : Option Register) (imm shift : Option ℕ) → IsGood rd → IsFine (moved kind rd imm shift)
fine_moved kind None imm shift good = tt
fine_moved kind (Some rd) None shift good = tt
fine_moved kind (Some rd) (Some imm) None good = tt
fine_moved kind (Some rd) (Some imm) (Some shift) good =
    fine_if (nat_lt imm 65536 && is_shift rd.wide shift) _ (Err 2)
    (λ e. let facts = and_parts (nat_lt imm 65536) (is_shift rd.wide shift) e in
    ((shift_fits rd.wide shift facts.1, ltb-true imm 65536 facts.0, good), refl))
    tt

fine_move : (kind : MoveKind) (three : Triple) → IsFine (move_row kind three)
fine_move kind Fewer = tt
fine_move kind (Three rd imm shift) = fine_moved kind (register_of false rd) (number_of imm) (number_of shift) (good_register false rd)

fine_number_added : (subtract : Bool) (rd rn : Option Register) (imm : ℕ) → IsGood rd → IsGood rn → IsFine (number_added subtract rd rn imm)
fine_number_added subtract None rn imm one two = tt
fine_number_added subtract (Some rd) None imm one two = tt
fine_number_added subtract (Some rd) (Some rn) imm one two =
    fine_if (is_same rd.wide rn.wide) _ (Err 1)
    (λ _. fine_if (nat_lt imm 4096) _ (Err 2) (λ e. ((ltb-true imm 4096 e, two, one), refl)) tt) tt

fine_registers_added : (subtract : Bool) (trio : Option Trio) → IsGoodTrio trio → IsFine (registers_added subtract trio)
fine_registers_added subtract None good = tt
fine_registers_added subtract (Some trio) good = ((refl, good.2, some_width trio.wide, good.1, good.0), refl)

fine_named_trio : (rd rn rm : List ℕ) → IsGoodTrio (trio_of (register_of false rd) (register_of false rn) (register_of false rm))
fine_named_trio rd rn rm =
    good_trio (register_of false rd) (register_of false rn) (register_of false rm) (good_register false rd) (good_register false rn)
    (good_register false rm)

fine_added : (subtract : Bool) (rd rn rm : List ℕ) (imm : Option ℕ) → IsFine (added subtract rd rn rm imm)
fine_added subtract rd rn rm (Some imm) =
    fine_number_added subtract (register_of true rd) (register_of true rn) imm (good_register true rd) (good_register true rn)
fine_added subtract rd rn rm None =
    fine_registers_added subtract (trio_of (register_of false rd) (register_of false rn) (register_of false rm)) (fine_named_trio rd rn rm)

fine_add : (subtract : Bool) (three : Triple) → IsFine (add_row subtract three)
fine_add subtract Fewer = tt
fine_add subtract (Three rd rn rm) = fine_added subtract rd rn rm (number_of rm)

fine_combined : (kind : LogicalKind) (trio : Option Trio) → IsGoodTrio trio → IsFine (combined kind trio)
fine_combined kind None good = tt
fine_combined kind (Some trio) good = ((good.2, some_width trio.wide, good.1, good.0), refl)

fine_logical : (kind : LogicalKind) (three : Triple) → IsFine (logical_row kind three)
fine_logical kind Fewer = tt
fine_logical kind (Three rd rn rm) =
    fine_combined kind (trio_of (register_of false rd) (register_of false rn) (register_of false rm)) (fine_named_trio rd rn rm)

has_transfer : (load : Bool) (size : Size) → has_no_transfer size (transfer_of load) ≡ false
has_transfer true size.Byte = refl
has_transfer true size.Half = refl
has_transfer true size.Word = refl
has_transfer true size.Double = refl
has_transfer false size.Byte = refl
has_transfer false size.Half = refl
has_transfer false size.Word = refl
has_transfer false size.Double = refl

fine_transferred : (load : Bool) (size : Size) (rt base : Register) (offset : ℕ) → rt.reg.0 < 32 → base.reg.0 < 32
    → IsFine (transferred load size rt base offset)
fine_transferred load size rt base offset one two =
    let bytes : ℕ = 2 ^ scale_of size in
    fine_if ((offset % bytes == 0) && nat_lt (offset / bytes) 4096) _ (Err 2)
    (λ e. let facts = and_parts (offset % bytes == 0) (nat_lt (offset / bytes) 4096) e in
    ((ltb-true (offset / bytes) 4096 facts.1, two, one, has_transfer load size), refl))
    tt

fine_accessed : (load byte : Bool) (rt base : Register) (offset : ℕ) → rt.reg.0 < 32 → base.reg.0 < 32 → IsFine (accessed load byte rt base offset)
fine_accessed load false rt base offset one two =
    fine_if rt.wide _ _ (λ _. fine_transferred load size.Double rt base offset one two) (fine_transferred load size.Word rt base offset one two)
fine_accessed load true rt base offset one two =
    fine_if rt.wide (Err 1) _ (λ _. tt) (fine_transferred load size.Byte rt base offset one two)

fine_access_of : (load byte : Bool) (rt base : Option Register) (offset : Option ℕ) → IsGood rt → IsGood base → IsFine (access load byte rt base offset)
fine_access_of load byte None base offset one two = tt
fine_access_of load byte (Some rt) None offset one two = tt
fine_access_of load byte (Some rt) (Some base) None one two = tt
fine_access_of load byte (Some rt) (Some base) (Some offset) one two =
    fine_if base.wide _ (Err 1) (λ _. fine_accessed load byte rt base offset one two) tt

fine_access : (load byte : Bool) (three : Triple) → IsFine (access_row load byte three)
fine_access load byte Fewer = tt
fine_access load byte (Three rt base offset) =
    fine_access_of load byte (register_of false rt) (base_of base) (offset_of offset) (good_register false rt) (good_base base)

-- an offset that fits
abbrev pub IsNear : ℕ → Result ℕ ℕ → Type 0
IsNear width (Err rule) = Unit {0}
IsNear width (Ok offset) = IsSigned width offset

words-26 : (back : Bool) (bytes : ℕ) → (if back then nat_le bytes (2 ^ 27) else nat_lt bytes (2 ^ 27)) ≡ true
    → (b : Bool) → nat_lt 0 (bytes / 4) ≡ b → IsSigned 26 (if back && b then 2 ^ 64 - bytes / 4 else bytes / 4)
words-26 true bytes e true some = inr (omega (arith, leb-true bytes (2 ^ 27) e), omega (arith, ltb-true 0 (bytes / 4) some))
words-26 true bytes e false none = let zero : bytes / 4 ≤ 0 = grind (arith, nat_tests) in inl (omega arith)
words-26 false bytes e b some = inl (omega (arith, ltb-true bytes (2 ^ 27) e))

words-19 : (back : Bool) (bytes : ℕ) → (if back then nat_le bytes (2 ^ 20) else nat_lt bytes (2 ^ 20)) ≡ true
    → (b : Bool) → nat_lt 0 (bytes / 4) ≡ b → IsSigned 19 (if back && b then 2 ^ 64 - bytes / 4 else bytes / 4)
words-19 true bytes e true some = inr (omega (arith, leb-true bytes (2 ^ 20) e), omega (arith, ltb-true 0 (bytes / 4) some))
words-19 true bytes e false none = let zero : bytes / 4 ≤ 0 = grind (arith, nat_tests) in inl (omega arith)
words-19 false bytes e b some = inl (omega (arith, ltb-true bytes (2 ^ 20) e))

near_if : (width : ℕ) (b : Bool) (offset : ℕ) → (b ≡ true → IsSigned width offset) → IsNear width (if b then Ok offset else Err 2)
near_if width true offset near = near refl
near_if width false offset near = tt

pub near-26 : (target : Result Distance ℕ) → IsNear 26 (words_to 26 target)
unfolding words_to
near-26 (Err rule) = tt
near-26 (Ok distance) =
    near_if 26 (fits_field 26 distance) (words_in distance)
    (λ e. words-26 distance.back distance.bytes
    (and_parts (distance.bytes % 4 == 0) (if distance.back then nat_le distance.bytes (2 ^ 27) else nat_lt distance.bytes (2 ^ 27)) e).1
    (nat_lt 0 (distance.bytes / 4)) refl)

pub near-19 : (target : Result Distance ℕ) → IsNear 19 (words_to 19 target)
unfolding words_to
near-19 (Err rule) = tt
near-19 (Ok distance) =
    near_if 19 (fits_field 19 distance) (words_in distance)
    (λ e. words-19 distance.back distance.bytes
    (and_parts (distance.bytes % 4 == 0) (if distance.back then nat_le distance.bytes (2 ^ 20) else nat_lt distance.bytes (2 ^ 20)) e).1
    (nat_lt 0 (distance.bytes / 4)) refl)

fine_branch : (link : Bool) (words : Result ℕ ℕ) → IsNear 26 words → IsFine (branch_row link words)
fine_branch link (Err rule) near = tt
fine_branch link (Ok offset) near = (near, refl)

fine_condition : (cond : Condition) (words : Result ℕ ℕ) → IsNear 19 words → IsFine (condition_row cond words)
fine_condition cond (Err rule) near = tt
fine_condition cond (Ok offset) near = (near, refl)

fine_compared : (nonzero : Bool) (rt : Option Register) (words : Result ℕ ℕ) → IsGood rt → IsNear 19 words → IsFine (compared nonzero rt words)
fine_compared nonzero None words good near = tt
fine_compared nonzero (Some rt) (Err rule) good near = tt
fine_compared nonzero (Some rt) (Ok offset) good near = ((near, good), refl)

fine_compare : (labels : List ℕ → Option Definition) (place : ℕ) (nonzero : Bool) (cut : Cut) → IsFine (compare_row labels place nonzero cut)
fine_compare labels place nonzero Whole = tt
fine_compare labels place nonzero (Parts rt target) =
    fine_compared nonzero (register_of false rt) (words_to 19 (target_of labels place target)) (good_register false rt)
    (near-19 (target_of labels place target))

fine_register : (kind : BranchKind) (rn : Option Register) → IsGood rn → IsFine (register_row kind rn)
fine_register kind None good = tt
fine_register kind (Some rn) good = fine_if rn.wide _ (Err 1) (λ _. (good, refl)) tt

fine_exception : (kind : ExceptionKind) (imm : Option ℕ) → IsFine (exception_row kind imm)
fine_exception kind None = tt
fine_exception kind (Some imm) = fine_if (nat_lt imm 65536) _ (Err 2) (λ e. (ltb-true imm 65536 e, refl)) tt

-- the numbers fit
system_fits : (n : Numbers) → is_system n ≡ true
    → (2 ≤ n.op0) × (n.op0 < 4) × (n.op1 < 8) × (n.crn < 16) × (n.crm < 16) × (n.op2 < 8)
system_fits n h = grind (arith, nat_tests)

fine_system_said : (read : Bool) (numbers : Option Numbers) (rt : Option Register) → IsGood rt → IsFine (system_said read numbers rt)
fine_system_said read None rt good = tt
fine_system_said read (Some n) None good = tt
fine_system_said read (Some n) (Some rt) good =
    fine_if rt.wide _ (Err 1) (λ _. fine_if (is_system n) _ (Err 2) (λ e. ((system_fits n e, good), refl)) tt) tt

fine_system : (read : Bool) (cut : Cut) → IsFine (system_row read cut)
fine_system read Whole = tt
fine_system true (Parts rt name) = fine_system_said true (system_numbers name) (register_of false rt) (good_register false rt)
fine_system false (Parts name rt) = fine_system_said false (system_numbers name) (register_of false rt) (good_register false rt)

fine_word : (word : Option ℕ) → IsFine (word_row word)
fine_word None = tt
fine_word (Some word) = tt

fine_alone : (name : Option Mnemonic) → IsFine (alone name)
fine_alone None = tt
fine_alone (Some ExceptionReturn) = (tt, refl)
fine_alone (Some Nop) = ((omega arith, omega arith), refl)
fine_alone (Some (Move kind)) = tt
fine_alone (Some (AddSub subtract)) = tt
fine_alone (Some (Logical kind)) = tt
fine_alone (Some (Access load byte)) = tt
fine_alone (Some (Branch link)) = tt
fine_alone (Some (BranchIf condition)) = tt
fine_alone (Some (CompareBranch nonzero)) = tt
fine_alone (Some (BranchRegister kind)) = tt
fine_alone (Some (Exception kind)) = tt
fine_alone (Some (System read)) = tt
fine_alone (Some Word) = tt

fine_row : (labels : List ℕ → Option Definition) (place : ℕ) (name : Option Mnemonic) (text : List ℕ) → IsFine (row_of labels place name text)
unfolding row_of
fine_row labels place None text = tt
fine_row labels place (Some (Move kind)) text = fine_move kind (triple_of text)
fine_row labels place (Some (AddSub subtract)) text = fine_add subtract (triple_of text)
fine_row labels place (Some (Logical kind)) text = fine_logical kind (triple_of text)
fine_row labels place (Some (Access load byte)) text = fine_access load byte (triple_of text)
fine_row labels place (Some (Branch link)) text = fine_branch link (words_to 26 (target_of labels place text)) (near-26 (target_of labels place text))
fine_row labels place (Some (BranchIf cond)) text = fine_condition cond (words_to 19 (target_of labels place text)) (near-19 (target_of labels place text))
fine_row labels place (Some (CompareBranch nonzero)) text = fine_compare labels place nonzero (operand_of text)
fine_row labels place (Some (BranchRegister kind)) text = fine_register kind (register_of false text) (good_register false text)
fine_row labels place (Some (Exception kind)) text = fine_exception kind (number_of text)
fine_row labels place (Some (System read)) text = fine_system read (operand_of text)
fine_row labels place (Some ExceptionReturn) text = tt
fine_row labels place (Some Nop) text = tt
fine_row labels place (Some Word) text = fine_word (hex_word_of text)

fine_in : (labels : List ℕ → Option Definition) (place : ℕ) (text : List ℕ) (cut : Cut) → IsFine (said_in labels place text cut)
fine_in labels place text Whole = fine_alone (mnemonic_of text)
fine_in labels place text (Parts name operands) = fine_row labels place (mnemonic_of name) operands

-- a line
pub sayable : (labels : List ℕ → Option Definition) (place : ℕ) (text : List ℕ) (said : Said) → said_of labels place text ≡ Ok said → IsSayable said
unfolding said_of
sayable labels place text said e = subst IsFine e (fine_in labels place text (cut_of 32 text))
