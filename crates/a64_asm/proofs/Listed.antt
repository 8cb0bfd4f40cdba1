-- Assembling a listing gives the image back.
use Rattle.std.proofs.Common.{◌≡◌, ◌≢◌, ℕ, ◌+◌, ◌*◌, ◌/◌, ◌%◌, ◌^◌, ◌<◌, ◌≤◌, Bool, true, false, not, List, [], ◌∷◌, ◌++◌, length, refl, sym, ap, subst, ◌∙◌, arith, append_assoc, append-nil}
use Rattle.std.specs.Prelude.{Option, None, Some, Ok, Err, ◌==◌, ◌&&◌, nat_le, if◌then◌else◌, unwrap_or}
use Rattle.std.specs.List.{flat_map, AllByRecursion}
use Rattle.std.proofs.lemmas.Bool.{and_parts, eqb-true, leb-true, lt-ltb}
use Rattle.bao_types.specs.Bytes.{little_endian, low_bytes}
use Rattle.a64_decode.specs.declared.instr.Instr.{Instr}
use Rattle.a64_decode.specs.declared.instr.Instr.TheVariants as instr
use Rattle.a64_decode.specs.declared.operand.Reg.{Reg}
use Rattle.a64_decode.specs.declared.operand.Condition.TheVariants as condition
use Rattle.a64_decode.specs.declared.operand.LogicalKind.{LogicalKind}
use Rattle.a64_decode.specs.declared.operand.LogicalKind.TheVariants.{And, Orr, Eor, Ands}
use Rattle.a64_decode.specs.declared.operand.Shift.TheVariants.{Lsl, Lsr, Asr, Ror}
use Rattle.a64_decode.specs.declared.operand.Size.{Size}
use Rattle.a64_decode.specs.declared.operand.Size.TheVariants as size
use Rattle.a64_decode.specs.declared.operand.Transfer.TheVariants as transfer
use Rattle.a64_decode.specs.Table.{decoded}
use Rattle.a64_encode.proofs.Made.{encoded-made}
use Rattle.a64_asm.specs.Register.{named}
use Rattle.a64_asm.specs.Mnemonic.{name_of}
use Rattle.a64_asm.specs.Listing.{registers_text, transfer_form, form_of, raw_text, text_of, line_of_word, words_of, listing, is_image_length}
use Rattle.a64_asm.specs.Reading.{transfer_of}
use Rattle.text_lines.specs.Rules.{unless_broken}
use Rattle.a64_asm.specs.Source.{label_in, label_of, is_word, next_of, beginning, lines_of, definitions, word_said, image_limit, within_limit, judged_by, judged, broken_by, bytes_in, Image, Broken, assembled_from, assembled}
use Rattle.a64_asm.specs.declared.label.Definition.{Definition}
use Rattle.a64_asm.specs.declared.said.Said.{Said}
use Rattle.a64_asm.specs.declared.said.Said.TheVariants.{Instruction, Raw}
use Rattle.a64_asm.specs.declared.mnemonic.Mnemonic.TheVariants.{AddSub, Logical, BranchIf, Nop}
use Rattle.a64_asm.proofs.Lines.{first_line}
use Rattle.a64_asm.proofs.Assembling.{next_line}
use Rattle.a64_asm.proofs.LawfulWords.{IsKept, lawful_words}
use Rattle.a64_asm.proofs.Spelled.{has_no, cut_at, not_cut, weaker}
use Rattle.a64_asm.proofs.Back.{is_quiet, quiet, IsLineOf, IsName, name_read, move_line, add_line, added_line, logical_line, transferred_back, access_line, branch_line, condition_line, compare_line, to_register_line, exception_line, system_line, return_line, nop_line, raw_line}

-- the form of an instruction is a line that says it
abbrev pub IsFormLine : Option (List ℕ) → Instr → Type 0
IsFormLine None i = Unit {0}
IsFormLine (Some text) i = IsLineOf text (Instruction i) × (i ≢ instr.Undefined)

form_if : (b : Bool) (text : List ℕ) (i : Instr) → (b ≡ true → IsFormLine (Some text) i) → IsFormLine (if b then Some text else None) i
form_if true text i line = line refl
form_if false text i line = tt

added_form : (wide subtract : Bool) (rm : Reg) (amount : ℕ) (rn rd : Reg) → (rm.0 < 32) × (rn.0 < 32) × (rd.0 < 32) → (amount == 0) ≡ true
    → IsFormLine (Some (registers_text (AddSub subtract) wide rm rn rd)) (instr.AddSubShifted wide subtract false Lsl rm amount rn rd)
added_form wide subtract rm amount rn rd low none =
    let zero_is : 0 ≡ amount = sym (eqb-true amount 0 none) in
    subst (λ n. IsFormLine (Some (registers_text (AddSub subtract) wide rm rn rd)) (instr.AddSubShifted wide subtract false Lsl rm n rn rd)) zero_is
    (added_line subtract wide rm rn rd low.0 low.1 low.2, λ e. cc)

logical_form : (wide : Bool) (kind : LogicalKind) (rm : Reg) (amount : ℕ) (rn rd : Reg) → IsName (Logical kind) → (rm.0 < 32) × (rn.0 < 32) × (rd.0 < 32)
    → (amount == 0) ≡ true
    → IsFormLine (Some (registers_text (Logical kind) wide rm rn rd)) (instr.LogicalShifted wide kind Lsl false rm amount rn rd)
logical_form wide kind rm amount rn rd name low none =
    let zero_is : 0 ≡ amount = sym (eqb-true amount 0 none) in
    subst (λ n. IsFormLine (Some (registers_text (Logical kind) wide rm rn rd)) (instr.LogicalShifted wide kind Lsl false rm n rn rd)) zero_is
    (logical_line kind wide rm rn rd name low.0 low.1 low.2, λ e. cc)

transfer_line : (load : Bool) (size : Size) (imm12 : ℕ) (rn rt : Reg) → imm12 < 2 ^ 12 → rn.0 < 32 → rt.0 < 32
    → IsFormLine (transfer_form load size imm12 rn rt) (instr.LoadStoreUnsigned size (transfer_of load) imm12 rn rt)
transfer_line load size.Byte imm12 rn rt few n t = (
  access_line load true false imm12 rn rt _ (omega (arith, few)) n t
      (transferred_back load size.Byte imm12 imm12 (named false rt.0) (named true rn.0) few (omega arith) (omega arith)),
  λ e. cc,
)
transfer_line load size.Half imm12 rn rt few n t = tt
transfer_line load size.Word imm12 rn rt few n t = (
  access_line load false false (4 * imm12) rn rt _ (omega (arith, few)) n t
      (transferred_back load size.Word (4 * imm12) imm12 (named false rt.0) (named true rn.0) few (omega arith) (omega arith)),
  λ e. cc,
)
transfer_line load size.Double imm12 rn rt few n t = (
  access_line load false true (8 * imm12) rn rt _ (omega (arith, few)) n t
      (transferred_back load size.Double (8 * imm12) imm12 (named true rt.0) (named true rn.0) few (omega arith) (omega arith)),
  λ e. cc,
)

hint_form : (crm op2 : ℕ) → ((crm == 0) && (op2 == 0)) ≡ true → IsFormLine (Some (name_of Nop)) (instr.Hint crm op2)
hint_form crm op2 h =
    let facts = and_parts (crm == 0) (op2 == 0) h in
    let one : 0 ≡ crm = sym (eqb-true crm 0 facts.0) in
    let other : 0 ≡ op2 = sym (eqb-true op2 0 facts.1) in
    subst (λ n. IsFormLine (Some (name_of Nop)) (instr.Hint n op2)) one
    (subst (λ n. IsFormLine (Some (name_of Nop)) (instr.Hint 0 n)) other (nop_line, λ e. cc))

pub form_line : (i : Instr) → IsKept i → IsFormLine (form_of i) i
unfolding form_of
form_line (instr.MoveWide wide kind hw imm16 rd) kept =
    let l = kept refl in (move_line kind wide hw imm16 rd l.0 l.1 l.2, λ e. cc)
form_line (instr.AddSubImmediate wide subtract true shifted imm12 rn rd) kept = tt
form_line (instr.AddSubImmediate wide subtract false true imm12 rn rd) kept = tt
form_line (instr.AddSubImmediate wide subtract false false imm12 rn rd) kept =
    let l = kept refl in (add_line subtract wide imm12 rn rd l.0 l.1 l.2, λ e. cc)
form_line (instr.AddSubShifted wide subtract true shift rm amount rn rd) kept = tt
form_line (instr.AddSubShifted wide subtract false Lsl rm amount rn rd) kept =
    let l = kept refl in form_if (amount == 0) _ _ (added_form wide subtract rm amount rn rd (l.1, l.3, l.4))
form_line (instr.AddSubShifted wide subtract false Lsr rm amount rn rd) kept = tt
form_line (instr.AddSubShifted wide subtract false Asr rm amount rn rd) kept = tt
form_line (instr.AddSubShifted wide subtract false Ror rm amount rn rd) kept = tt
form_line (instr.LogicalShifted wide kind shift true rm amount rn rd) kept = tt
form_line (instr.LogicalShifted wide Ands shift false rm amount rn rd) kept = tt
form_line (instr.LogicalShifted wide And Lsl false rm amount rn rd) kept =
    let l = kept refl in form_if (amount == 0) _ _ (logical_form wide And rm amount rn rd (name_read (Logical And) refl) (l.0, l.2, l.3))
form_line (instr.LogicalShifted wide And Lsr false rm amount rn rd) kept = tt
form_line (instr.LogicalShifted wide And Asr false rm amount rn rd) kept = tt
form_line (instr.LogicalShifted wide And Ror false rm amount rn rd) kept = tt
form_line (instr.LogicalShifted wide Orr Lsl false rm amount rn rd) kept =
    let l = kept refl in form_if (amount == 0) _ _ (logical_form wide Orr rm amount rn rd (name_read (Logical Orr) refl) (l.0, l.2, l.3))
form_line (instr.LogicalShifted wide Orr Lsr false rm amount rn rd) kept = tt
form_line (instr.LogicalShifted wide Orr Asr false rm amount rn rd) kept = tt
form_line (instr.LogicalShifted wide Orr Ror false rm amount rn rd) kept = tt
form_line (instr.LogicalShifted wide Eor Lsl false rm amount rn rd) kept =
    let l = kept refl in form_if (amount == 0) _ _ (logical_form wide Eor rm amount rn rd (name_read (Logical Eor) refl) (l.0, l.2, l.3))
form_line (instr.LogicalShifted wide Eor Lsr false rm amount rn rd) kept = tt
form_line (instr.LogicalShifted wide Eor Asr false rm amount rn rd) kept = tt
form_line (instr.LogicalShifted wide Eor Ror false rm amount rn rd) kept = tt
form_line (instr.LoadStoreUnsigned size transfer.Store imm12 rn rt) kept =
    let l = kept refl in transfer_line false size imm12 rn rt l.0 l.1 l.2
form_line (instr.LoadStoreUnsigned size transfer.Load imm12 rn rt) kept =
    let l = kept refl in transfer_line true size imm12 rn rt l.0 l.1 l.2
form_line (instr.LoadStoreUnsigned size transfer.LoadSigned imm12 rn rt) kept = tt
form_line (instr.LoadStoreUnsigned size transfer.LoadSignedWord imm12 rn rt) kept = tt
form_line (instr.Branch link offset) kept = (branch_line link offset (kept refl), λ e. cc)
form_line (instr.BranchConditional offset condition.Eq) kept = (condition_line condition.Eq offset (name_read (BranchIf condition.Eq) refl) (kept refl), λ e. cc)
form_line (instr.BranchConditional offset condition.Ne) kept = (condition_line condition.Ne offset (name_read (BranchIf condition.Ne) refl) (kept refl), λ e. cc)
form_line (instr.BranchConditional offset condition.Cs) kept = (condition_line condition.Cs offset (name_read (BranchIf condition.Cs) refl) (kept refl), λ e. cc)
form_line (instr.BranchConditional offset condition.Cc) kept = (condition_line condition.Cc offset (name_read (BranchIf condition.Cc) refl) (kept refl), λ e. cc)
form_line (instr.BranchConditional offset condition.Mi) kept = (condition_line condition.Mi offset (name_read (BranchIf condition.Mi) refl) (kept refl), λ e. cc)
form_line (instr.BranchConditional offset condition.Pl) kept = (condition_line condition.Pl offset (name_read (BranchIf condition.Pl) refl) (kept refl), λ e. cc)
form_line (instr.BranchConditional offset condition.Vs) kept = (condition_line condition.Vs offset (name_read (BranchIf condition.Vs) refl) (kept refl), λ e. cc)
form_line (instr.BranchConditional offset condition.Vc) kept = (condition_line condition.Vc offset (name_read (BranchIf condition.Vc) refl) (kept refl), λ e. cc)
form_line (instr.BranchConditional offset condition.Hi) kept = (condition_line condition.Hi offset (name_read (BranchIf condition.Hi) refl) (kept refl), λ e. cc)
form_line (instr.BranchConditional offset condition.Ls) kept = (condition_line condition.Ls offset (name_read (BranchIf condition.Ls) refl) (kept refl), λ e. cc)
form_line (instr.BranchConditional offset condition.Ge) kept = (condition_line condition.Ge offset (name_read (BranchIf condition.Ge) refl) (kept refl), λ e. cc)
form_line (instr.BranchConditional offset condition.Lt) kept = (condition_line condition.Lt offset (name_read (BranchIf condition.Lt) refl) (kept refl), λ e. cc)
form_line (instr.BranchConditional offset condition.Gt) kept = (condition_line condition.Gt offset (name_read (BranchIf condition.Gt) refl) (kept refl), λ e. cc)
form_line (instr.BranchConditional offset condition.Le) kept = (condition_line condition.Le offset (name_read (BranchIf condition.Le) refl) (kept refl), λ e. cc)
form_line (instr.BranchConditional offset condition.Al) kept = tt
form_line (instr.BranchConditional offset condition.Nv) kept = tt
form_line (instr.CompareBranch wide nonzero offset rt) kept =
    let l = kept refl in (compare_line nonzero wide offset rt l.0 l.1, λ e. cc)
form_line (instr.BranchRegister kind rn) kept = (to_register_line kind rn (kept refl), λ e. cc)
form_line (instr.Exception kind imm16) kept = (exception_line kind imm16 (kept refl), λ e. cc)
form_line (instr.SystemRegister read id rt) kept = let l = kept refl in (system_line read id rt l.0 l.1, λ e. cc)
form_line instr.ExceptionReturn kept = (return_line, λ e. cc)
form_line (instr.Hint crm op2) kept = form_if ((crm == 0) && (op2 == 0)) (name_of Nop) (instr.Hint crm op2) (hint_form crm op2)
form_line _ kept = tt

-- the line of a word says that word, and is one
pub record IsReadBack (text : List ℕ) (word : ℕ) : Type 0 where
  pub judged_is : (labels : List ℕ → Option Definition) (here : Definition) → here.place < image_limit / 4 → judged labels here text ≡ Ok (Some word)
  pub counts : is_word text ≡ true
  pub one : has_no 10 text ≡ true

quiet_lines : (byte : ℕ) → is_quiet byte ≡ true → not (byte == 10) ≡ true
quiet_lines byte h = (and_parts (not (byte == 10)) (not (byte == 58)) h).0

quiet_colons : (byte : ℕ) → is_quiet byte ≡ true → not (byte == 58) ≡ true
quiet_colons byte h = (and_parts (not (byte == 10)) (not (byte == 58)) h).1

no_label : (text : List ℕ) → quiet text ≡ true → label_of text ≡ None
unfolding label_of
no_label text hush = ap label_in (not_cut 58 text (weaker is_quiet (λ b. not (b == 58)) quiet_colons text hush))

read_back : (text : List ℕ) (said : Said) (word : ℕ) → IsLineOf text said → word_said said ≡ word → IsReadBack text word
unfolding judged is_word
read_back text said word line is =
    record {
      judged_is = λ labels here low.
          ap (λ b. if b then Ok None else judged_by labels here text (label_of text)) line.begins
          ∙ ap (judged_by labels here text) (no_label text line.hushed)
          ∙ ap (within_limit here.place) (line.read labels here.place)
          ∙ ap (λ b. if b then Ok (Some (word_said said)) else Err 5) (lt-ltb here.place (image_limit / 4) low)
          ∙ ap (λ w. Ok (Some w)) is;
      counts = rw (line.begins, no_label text line.hushed) refl;
      one = weaker is_quiet (λ b. not (b == 10)) quiet_lines text line.hushed;
    }

by_form : (word : ℕ) → word < 2 ^ 32 → (form : Option (List ℕ)) → IsFormLine form (decoded word) → IsReadBack (unwrap_or form (raw_text word)) word
by_form word low None line = read_back (raw_text word) (Raw word) word (raw_line word low) refl
by_form word low (Some text) line = read_back text (Instruction (decoded word)) word line.0 (encoded-made (decoded word) word (low, refl, line.1))

text_back : (word : ℕ) → word < 2 ^ 32 → IsReadBack (text_of word) word
text_back word low = by_form word low (form_of (decoded word)) (form_line (decoded word) (lawful_words word))

-- the lines of words, and the nothing after them
abbrev parts_of : List ℕ → List (List ℕ)
parts_of [] = [] ∷ []
parts_of (word ∷ words) = text_of word ∷ parts_of words

abbrev AreWords : List ℕ → Type 0
AreWords words = AllByRecursion (λ word. word < 2 ^ 32) words

lines_back : (words : List ℕ) → AreWords words → lines_of (flat_map line_of_word words) ≡ parts_of words
unfolding line_of_word
lines_back [] small = refl
lines_back (word ∷ words) small =
    let others = flat_map line_of_word words in
    let text = text_of word in
    ap lines_of (append_assoc text (10 ∷ []) others)
    ∙ (first_line (text ++ 10 ∷ others) text others (cut_at 10 text others (text_back word small.0).one)).split
    ∙ ap (λ ps. text ∷ ps) (lines_back words small.1)

some_parts : (words : List ℕ) → 0 < length (parts_of words)
some_parts [] = omega arith
some_parts (word ∷ words) = omega arith

next_place : (here : Definition) (text : List ℕ) → is_word text ≡ true → (next_of here text).place ≡ here.place + 1
next_place here text counts = rw counts refl

words_back : (labels : List ℕ → Option Definition) (words bytes : List ℕ) (here : Definition) → AreWords words → here.place + length words ≤ image_limit / 4
    → assembled_from labels bytes here (parts_of words) ≡ Image (bytes ++ flat_map (low_bytes 4) words)
unfolding assembled_from
words_back labels [] bytes here small room = ap Image (sym (append-nil bytes))
words_back labels (word ∷ words) bytes here small room =
    let text = text_of word in
    let back = text_back word small.0 in
    let said = back.judged_is labels here (omega (arith, room)) in
    next_line labels bytes here text (parts_of words) (some_parts words)
    ∙ ap (λ j. unless_broken (Broken (here.line + 1)) (broken_by j) (assembled_from labels (bytes ++ bytes_in j) (next_of here text) (parts_of words))) said
    ∙ words_back labels words (bytes ++ low_bytes 4 word) (next_of here text) small.1 (omega (arith, room, next_place here text back.counts))
    ∙ ap Image (append_assoc bytes (low_bytes 4 word) (flat_map (low_bytes 4) words))

abbrev AreBytes : List ℕ → Type 0
AreBytes image = AllByRecursion (λ byte. byte < 256) image

-- four bytes
bytes_back : (a b c d : ℕ) → a < 256 → b < 256 → c < 256 → d < 256 → low_bytes 4 (little_endian (a ∷ b ∷ c ∷ d ∷ [])) ≡ a ∷ b ∷ c ∷ d ∷ []
bytes_back a b c d a_low b_low c_low d_low =
    let word = little_endian (a ∷ b ∷ c ∷ d ∷ []) in
    let one : word % 256 ≡ a = omega arith in
    let two : word / 256 % 256 ≡ b = omega arith in
    let three : word / 256 / 256 % 256 ≡ c = omega arith in
    let four : word / 256 / 256 / 256 % 256 ≡ d = omega arith in
    λ i. one i ∷ two i ∷ three i ∷ four i ∷ []

pub record IsWholeImage (image : List ℕ) : Type 0 where
  pub small : AreWords (words_of image)
  pub back : flat_map (low_bytes 4) (words_of image) ≡ image
  pub count : 4 * length (words_of image) ≡ length image

whole_image : (image : List ℕ) → AreBytes image → length image % 4 ≡ 0 → IsWholeImage image
unfolding words_of
whole_image [] bytes whole = record { small = tt; back = refl; count = refl }
whole_image (a ∷ []) bytes whole = absurd (omega arith)
whole_image (a ∷ b ∷ []) bytes whole = absurd (omega arith)
whole_image (a ∷ b ∷ c ∷ []) bytes whole = absurd (omega arith)
whole_image (a ∷ b ∷ c ∷ d ∷ rest) bytes whole =
    let others = whole_image rest bytes.1.1.1.1 (omega (arith, whole)) in
    record {
      small = (omega (arith, bytes.0, bytes.1.0, bytes.1.1.0, bytes.1.1.1.0), others.small);
      back =
          ap (λ ws. ws ++ flat_map (low_bytes 4) (words_of rest)) (bytes_back a b c d bytes.0 bytes.1.0 bytes.1.1.0 bytes.1.1.1.0)
          ∙ ap (λ r. a ∷ b ∷ c ∷ d ∷ r) others.back;
      count = omega (arith, others.count);
    }

-- the law
pub reads_back : (image : List ℕ) → AreBytes image → is_image_length (length image) ≡ true → assembled (listing image) ≡ Image image
unfolding assembled listing
reads_back image bytes lawful =
    let facts = and_parts (length image % 4 == 0) (nat_le (length image) image_limit) lawful in
    let whole = whole_image image bytes (eqb-true (length image % 4) 0 facts.0) in
    let few : length image ≤ image_limit = leb-true (length image) image_limit facts.1 in
    ap (assembled_from (definitions (listing image)) [] beginning) (lines_back (words_of image) whole.small)
    ∙ words_back (definitions (listing image)) (words_of image) [] beginning whole.small (omega (arith, whole.count, few))
    ∙ ap Image whole.back
