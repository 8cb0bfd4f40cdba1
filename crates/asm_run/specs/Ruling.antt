-- What words and contents rule: the bytes that are made, or a refusal.
use Rattle.std.specs.Prelude.{ℕ, nat_lt, if◌then◌else◌, List, Option, None, Some, length}
use Rattle.outside.specs.Shelf.{Files}
use Rattle.a64_asm.specs.Listing.{listing, is_image_length}
use Rattle.a64_asm.specs.Source.{Assembled, Image, Broken, assembled, image_limit}
use Rattle.asm_run.specs.Words.{Command, Assemble, Show, Unknown, command_of}
use Rattle.asm_run.specs.declared.status.AsmStatus.{AsmStatus}
use Rattle.asm_run.specs.declared.status.AsmStatus.TheVariants as status

-- these bytes are made, or a refusal, or the file is missing
pub data Ruling : Type 0 where
  Made : (bytes : List ℕ) → Ruling
  Refused : (status : AsmStatus) → Ruling
  Missing : Ruling

-- what a source may have at most: 16 MiB; an image has its own limit
abbrev pub source_limit : ℕ
source_limit = 16777216

abbrev pub rule_source : Assembled → Ruling
rule_source (Image bytes) = Made bytes
rule_source (Broken line rule) = Refused (status.BadLine line rule)

abbrev pub rule_image : List ℕ → Ruling
rule_image image = if is_image_length (length image) then Made (listing image) else Refused (status.BadLength (length image))

-- a content that isn't too long decides
abbrev pub rule_content : Command → List ℕ → Ruling
rule_content (Assemble file) content =
    if nat_lt source_limit (length content) then Refused (status.TooLong source_limit) else rule_source (assembled content)
rule_content (Show file) content =
    if nat_lt image_limit (length content) then Refused (status.TooLong image_limit) else rule_image content
rule_content Unknown content = Refused status.Usage

abbrev pub rule_file : Command → Option (List ℕ) → Ruling
rule_file command None = Missing
rule_file command (Some content) = rule_content command content

abbrev pub rule_command : Command → Files → Ruling
rule_command (Assemble file) files = rule_file (Assemble file) (files file)
rule_command (Show file) files = rule_file (Show file) (files file)
rule_command Unknown files = Refused status.Usage

abbrev pub ruling : List (List ℕ) → Files → Ruling
ruling words files = rule_command (command_of words) files
