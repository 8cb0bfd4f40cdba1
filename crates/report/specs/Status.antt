-- How the program ends: its number, and the line that a refusal writes.
use Rattle.std.specs.Prelude.{ℕ, Bool, true, false, ◌==◌, if◌then◌else◌, List, [], ◌++◌, codes}
use Rattle.std.specs.Fmt.{decimal, signed_decimal}
use Rattle.bao_types.specs.declared.range.ByteRange.{ByteRange}
use Rattle.bao_config.specs.Path.{path_of}
use Rattle.bao_wellformed.specs.Break.{none}
use Rattle.bao_wellformed.specs.declared.ill.Ill.{Ill}
use Rattle.text_lines.specs.Digits.{short_hex}
use Rattle.text_lines.specs.Newline.{newline}
use Rattle.report.specs.declared.status.FileId.{FileId}
use Rattle.report.specs.declared.status.FileId.TheVariants.{Config, Image, Schedule}
use Rattle.report.specs.declared.status.Why.{Why}
use Rattle.report.specs.declared.status.Why.TheVariants.{Shape, Value, Rule}
use Rattle.report.specs.declared.status.Status.{Status}
use Rattle.report.specs.declared.status.Status.TheVariants.{Done, Usage, ReadFault, TooLong, BadToml, IllConfig, TooMany, BadSchedule, WriteFault, OutOfMemory}

abbrev pub file_text : FileId → List ℕ
file_text Config = codes "config"
file_text (Image vm) = codes "image " ++ decimal vm
file_text Schedule = codes "schedule"

-- a place in a list, `-` where a rule names none
abbrev pub place_text : ℕ → List ℕ
place_text place = if place == none then codes "-" else decimal place

-- `B+S`
abbrev pub range_text : ByteRange → List ℕ
range_text range = short_hex range.base ++ (codes "+" ++ short_hex range.size)

-- `ill-formed rule R vm V item I B+S B+S`
abbrev pub ill_text : Ill → List ℕ
ill_text ill =
    codes "ill-formed rule "
    ++ (decimal ill.rule
    ++ (codes " vm "
    ++ (place_text ill.vm
    ++ (codes " item " ++ (place_text ill.item ++ (codes " " ++ (range_text ill.first ++ (codes " " ++ range_text ill.second))))))))

-- why bytes are no configuration, or one that isn't well formed
abbrev pub why_text : Why → List ℕ
why_text (Shape spot) = codes "bad shape " ++ path_of spot
why_text (Value spot value) = codes "bad value " ++ (path_of spot ++ (codes " " ++ signed_decimal value))
why_text (Rule ill) = ill_text ill

-- `too long FILE limit N`
abbrev pub too_long_text : FileId → ℕ → List ℕ
too_long_text file limit = codes "too long " ++ (file_text file ++ (codes " limit " ++ decimal limit))

-- `too many runs core C runs R entries N`
abbrev pub too_many_text : ℕ → ℕ → ℕ → List ℕ
too_many_text core runs entries =
    codes "too many runs core "
    ++ (decimal core ++ (codes " runs " ++ (decimal runs ++ (codes " entries " ++ decimal entries))))

-- `bad schedule line L rule R`
abbrev pub bad_schedule_text : ℕ → ℕ → List ℕ
bad_schedule_text line rule = codes "bad schedule line " ++ (decimal line ++ (codes " rule " ++ decimal rule))

-- the line of a refusal; the other two have none
unfoldable pub refusal_text : Status → List ℕ
refusal_text Done = []
refusal_text Usage = codes "usage: run CONFIG SCHEDULE or check CONFIG or gen N\n"
refusal_text (ReadFault file) = codes "read fault " ++ (file_text file ++ newline)
refusal_text (TooLong file limit) = too_long_text file limit ++ newline
refusal_text BadToml = codes "bad toml\n"
refusal_text (IllConfig why) = why_text why ++ newline
refusal_text (TooMany core runs entries) = too_many_text core runs entries ++ newline
refusal_text (BadSchedule line rule) = bad_schedule_text line rule ++ newline
refusal_text WriteFault = []
refusal_text OutOfMemory = codes "out of memory\n"

-- the exit status of the process
abbrev pub number_of : Status → ℕ
number_of Done = 0
number_of Usage = 2
number_of (ReadFault file) = 3
number_of (TooLong file limit) = 4
number_of BadToml = 5
number_of (IllConfig why) = 6
number_of (TooMany core runs entries) = 7
number_of (BadSchedule line rule) = 8
number_of WriteFault = 9
number_of OutOfMemory = 10

-- the statuses that have a line of their own
abbrev pub is_refusal : Status → Bool
is_refusal Done = false
is_refusal Usage = true
is_refusal (ReadFault file) = true
is_refusal (TooLong file limit) = true
is_refusal BadToml = true
is_refusal (IllConfig why) = true
is_refusal (TooMany core runs entries) = true
is_refusal (BadSchedule line rule) = true
is_refusal WriteFault = false
is_refusal OutOfMemory = true
