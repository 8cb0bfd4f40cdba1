-- What it is to encode an instruction, by the decoder's table alone.
use Rattle.std.specs.Prelude.{◌≡◌, ◌≢◌, ◌^◌, ◌<◌, ℕ, Option, Some, None}
use Rattle.a64_decode.specs.declared.instr.Instr.{Instr}
use Rattle.a64_decode.specs.declared.instr.Instr.TheVariants.{Undefined}
use Rattle.a64_decode.specs.Table.{decoded}
use Rattle.a64_decode.specs.Word.{word_of}

-- a word that decodes to the instruction, which isn't the one that all other words are
abbrev pub IsWordOf : Instr → ℕ → Type 0
IsWordOf instr word = (word < 2 ^ 32) × (decoded word ≡ instr) × (instr ≢ Undefined)

-- the answer is a word of the instruction, and None only where it has none
abbrev pub Encodes : Instr → Option ℕ → Type 0
Encodes instr (Some word) = IsWordOf instr word
Encodes instr None = (word : ℕ) → ¬ IsWordOf instr word

-- the word of an instruction. Every word that decodes to the instruction is this one, and that is all that a reader has to
-- know of it; here it is said by the fields of the decoder's row
unfoldable pub encoded : Instr → ℕ
encoded instr = word_of instr

-- so an instruction has one word at most
abbrev pub HasOneWord : Instr → Type 0
HasOneWord instr = (word : ℕ) → IsWordOf instr word → encoded instr ≡ word
