-- What holds of listing and assembling, over their definitions alone.
use Rattle.std.specs.Prelude.{◌≡◌, ◌<◌, ℕ, List, Option, Ok, length, IsTrue}
use Rattle.std.specs.List.{AllByRecursion}
use Rattle.a64_decode.specs.declared.instr.Instr.{Instr}
use Rattle.a64_encode.specs.Encode.{IsWordOf}
use Rattle.a64_asm.specs.Listing.{listing, is_image_length}
use Rattle.a64_asm.specs.Reading.{said_of}
use Rattle.a64_asm.specs.Source.{word_said, assembled, Image}
use Rattle.a64_asm.specs.declared.label.Definition.{Definition}
use Rattle.a64_asm.specs.declared.said.Said.TheVariants.{Instruction}

-- the lines of an image give it back
abbrev pub AreInverse : Type 0
AreInverse =
    (image : List ℕ) → AllByRecursion (λ byte. byte < 256) image → IsTrue (is_image_length (length image))
    → assembled (listing image) ≡ Image image

-- the word of a line that says an instruction is the one that decodes to it
abbrev pub AreWords : Type 0
AreWords =
    (labels : List ℕ → Option Definition) (place : ℕ) (line : List ℕ) (instr : Instr) → said_of labels place line ≡ Ok (Instruction instr)
    → IsWordOf instr (word_said (Instruction instr))
