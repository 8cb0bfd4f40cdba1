-- The image that the lines of a source say, or the first line that breaks a rule.
use Rattle.std.specs.Prelude.{◌≡◌, ℕ, ◌+◌, ◌/◌, ◌==◌, ◌&&◌, nat_lt, not, Bool, true, false, if◌then◌else◌, List, [], ◌∷◌, ◌++◌, Option, None, Some, Result, Ok, Err, IsTrue, is_none, ⊤}
use Rattle.std.specs.Option.{option_or}
use Rattle.std.specs.List.{slice_split}
use Rattle.std.specs.Str.{bytes_eq}
use Rattle.bao_types.specs.Bytes.{low_bytes}
use Rattle.a64_decode.specs.declared.instr.Instr.{Instr}
use Rattle.a64_decode.specs.declared.instr.Instr.TheVariants as instr
use Rattle.a64_decode.specs.Lawful.{IsLawful}
use Rattle.a64_encode.specs.Encode.{encoded}
use Rattle.text_lines.specs.Ascii.{line_feed, colon, semicolon}
use Rattle.text_lines.specs.Rules.{unless_broken}
use Rattle.a64_asm.specs.Text.{Cut, Whole, Parts, cut_of}
use Rattle.a64_asm.specs.Operand.{is_name}
use Rattle.a64_asm.specs.Reading.{said_of}
use Rattle.a64_asm.specs.declared.said.Said.{Said}
use Rattle.a64_asm.specs.declared.said.Said.TheVariants.{Instruction, Raw}
use Rattle.a64_asm.specs.declared.label.Definition.{Definition}
use Rattle.a64_asm.specs.declared.error.AsmError.{AsmError}
use Rattle.a64_asm.specs.declared.error.AsmError.TheVariants.{BadLine, OutOfMemory}

-- a name and a colon are a label
abbrev pub label_in : Cut → Option (List ℕ)
label_in Whole = None
label_in (Parts name []) = if is_name name then Some name else None
label_in (Parts name (first ∷ others)) = None

unfoldable pub label_of : List ℕ → Option (List ℕ)
label_of line = label_in (cut_of colon line)

-- an empty line, or a comment, which begins with `;`
abbrev pub is_blank : List ℕ → Bool
is_blank [] = true
is_blank (first ∷ rest) = first == semicolon

-- every other line counts as a word, whatever it says
unfoldable pub is_word : List ℕ → Bool
is_word line = not (is_blank line) && is_none (label_of line)

-- a line that is this label, before which this many words stand
abbrev pub definition_at : Definition → Option (List ℕ) → List ℕ → Option Definition
definition_at here None name = None
definition_at here (Some label) name = if bytes_eq label name then Some here else None

-- the line after this one
abbrev pub next_of : Definition → List ℕ → Definition
next_of here line = record { line = here.line + 1; place = if is_word line then here.place + 1 else here.place }

-- where the lines from here on define a label first; what is after the last end of a line defines none
unfoldable pub found_from : Definition → List (List ℕ) → List ℕ → Option Definition
found_from here [] name = None
found_from here (behind ∷ []) name = None
found_from here (line ∷ next ∷ others) name =
    option_or (definition_at here (label_of line) name) (found_from (next_of here line) (next ∷ others) name)

abbrev pub beginning : Definition
beginning = record { line = 0; place = 0 }

-- the lines of a text are the parts between the bytes LF
abbrev pub lines_of : List ℕ → List (List ℕ)
lines_of text = slice_split (λ byte. byte == line_feed) text

abbrev pub definitions : List ℕ → List ℕ → Option Definition
definitions text name = found_from beginning (lines_of text) name

-- an earlier line defines the label
abbrev pub is_repeated : ℕ → Option Definition → Bool
is_repeated line None = false
is_repeated line (Some first) = nat_lt first.line line

-- the word that a line says: of an instruction the one that decodes to it
abbrev pub word_said : Said → ℕ
word_said (Instruction instr) = encoded instr
word_said (Raw word) = word

-- the most bytes of an image: a mebibyte
abbrev pub image_limit : ℕ
image_limit = 1048576

-- 5: an image has no more words than that
abbrev pub within_limit : ℕ → Result Said ℕ → Result (Option ℕ) ℕ
within_limit place (Err rule) = Err rule
within_limit place (Ok said) = if nat_lt place (image_limit / 4) then Ok (Some (word_said said)) else Err 5

-- 4: a label that an earlier line defines
abbrev pub judged_by : (List ℕ → Option Definition) → Definition → List ℕ → Option (List ℕ) → Result (Option ℕ) ℕ
judged_by labels here line (Some name) = if is_repeated here.line (labels name) then Err 4 else Ok None
judged_by labels here line None = within_limit here.place (said_of labels here.place line)

-- the word of a line, if it has one, or the first rule that it breaks
unfoldable pub judged : (List ℕ → Option Definition) → Definition → List ℕ → Result (Option ℕ) ℕ
judged labels here line = if is_blank line then Ok None else judged_by labels here line (label_of line)

abbrev pub broken_by : Result (Option ℕ) ℕ → Option ℕ
broken_by (Err rule) = Some rule
broken_by (Ok word) = None

-- the bytes of a line: the four of its word, the lowest first, where it has one
abbrev pub bytes_in : Result (Option ℕ) ℕ → List ℕ
bytes_in (Err rule) = []
bytes_in (Ok None) = []
bytes_in (Ok (Some word)) = low_bytes 4 word

-- the image, or the number of the first line that breaks a rule, counted from 1, with the first rule that it breaks
pub data Assembled : Type 0 where
  Image : (bytes : List ℕ) → Assembled
  Broken : (line rule : ℕ) → Assembled

-- what is after the last end of a line must be nothing, else it is a line of no form
abbrev pub at_end : List ℕ → Definition → List ℕ → Assembled
at_end bytes here [] = Image bytes
at_end bytes here (first ∷ rest) = Broken (here.line + 1) 1

-- what the lines from here on give, after these bytes
unfoldable pub assembled_from : (List ℕ → Option Definition) → List ℕ → Definition → List (List ℕ) → Assembled
assembled_from labels bytes here [] = Image bytes
assembled_from labels bytes here (behind ∷ []) = at_end bytes here behind
assembled_from labels bytes here (line ∷ next ∷ others) =
    unless_broken (Broken (here.line + 1)) (broken_by (judged labels here line))
    (assembled_from labels (bytes ++ bytes_in (judged labels here line)) (next_of here line) (next ∷ others))

-- what a source gives
unfoldable pub assembled : List ℕ → Assembled
assembled text = assembled_from (definitions text) [] beginning (lines_of text)

-- the refusal is that of the source, unless memory ran out
abbrev pub TellsBroken : Assembled → AsmError → Type 0
TellsBroken answer (BadLine line rule) = answer ≡ Broken line rule
TellsBroken answer OutOfMemory = ⊤

-- For private clauses: the instructions that a line may say.
abbrev pub is_said : Instr → Bool
is_said (instr.MoveWide wide kind hw imm16 rd) = true
is_said (instr.AddSubImmediate wide subtract flags shifted imm12 rn rd) = true
is_said (instr.AddSubShifted wide subtract flags shift rm amount rn rd) = true
is_said (instr.LogicalShifted wide kind shift invert rm amount rn rd) = true
is_said (instr.LoadStoreUnsigned size transfer imm12 rn rt) = true
is_said (instr.Branch link offset) = true
is_said (instr.BranchConditional offset condition) = true
is_said (instr.CompareBranch wide nonzero offset rt) = true
is_said (instr.BranchRegister kind rn) = true
is_said (instr.Exception kind imm16) = true
is_said (instr.SystemRegister read id rt) = true
is_said instr.ExceptionReturn = true
is_said (instr.Hint crm op2) = true
is_said (instr.Address page offset rd) = false
is_said (instr.LogicalImmediate wide kind n immr imms rn rd) = false
is_said (instr.Bitfield wide kind immr imms rn rd) = false
is_said (instr.Extract wide rm imms rn rd) = false
is_said (instr.TestBranch bit nonzero offset rt) = false
is_said (instr.Barrier crm kind) = false
is_said (instr.MsrImmediate part crm) = false
is_said (instr.System op1 crn crm op2 rt) = false
is_said (instr.AddSubExtended wide subtract flags rm extend amount rn rd) = false
is_said (instr.AddSubCarry wide subtract flags rm rn rd) = false
is_said (instr.ConditionalCompare wide subtract operand condition rn nzcv) = false
is_said (instr.ConditionalSelect wide kind rm condition rn rd) = false
is_said (instr.ThreeSources wide kind rm ra rn rd) = false
is_said (instr.TwoSources wide kind rm rn rd) = false
is_said (instr.OneSource wide kind rn rd) = false
is_said (instr.LoadLiteral kind offset rt) = false
is_said (instr.Pair kind mode load offset rt2 rn rt) = false
is_said (instr.LoadStoreIndexed size transfer offset mode rn rt) = false
is_said (instr.LoadStoreRegister size transfer rm extend scaled rn rt) = false
is_said instr.Undefined = false

-- such an instruction, with fields that fit their bits, or any word
abbrev pub IsSayable : Said → Type 0
IsSayable (Instruction instr) = IsLawful instr × IsTrue (is_said instr)
IsSayable (Raw word) = ⊤
