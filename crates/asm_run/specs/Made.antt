-- What is made before anything is written. No public clause cites this module.
use Rattle.std.specs.Prelude.{◌≡◌, ℕ, List, Vec, Result, Ok, Err, ⊤}
use Rattle.std.specs.declared.alloc.Global.{Global}
use Rattle.outside.specs.Use.{ShelfUse, SinkUse, IsTaken, IsCut}
use Rattle.outside.specs.declared.shelf.ShelfError.{ShelfError}
use Rattle.outside.specs.declared.shelf.ShelfError.TheVariants.{TooLong, Failed, OutOfMemory}
use Rattle.asm_run.specs.Words.{Command, Unknown}
use Rattle.asm_run.specs.Ruling.{Made, Refused, rule_content}
use Rattle.asm_run.specs.Outcome.{HasMade, IsRuled, HasFault, HasRunOut}
use Rattle.asm_run.specs.declared.status.AsmStatus.{AsmStatus}
use Rattle.asm_run.specs.declared.status.AsmStatus.TheVariants as status

-- the bytes that the content gives, or why there are none
abbrev pub IsMade : Command → ShelfUse → Result (Vec ℕ Global) AsmStatus → Type 0
IsMade command shelf (Ok bytes) = HasMade command shelf bytes.items
IsMade command shelf (Err status.Done) = ⊥
IsMade command shelf (Err status.Usage) = (command ≡ Unknown) × IsRuled command shelf status.Usage
IsMade command shelf (Err status.ReadFault) = HasFault command shelf
IsMade command shelf (Err (status.TooLong limit)) = IsRuled command shelf (status.TooLong limit)
IsMade command shelf (Err status.WriteFault) = ⊥
IsMade command shelf (Err status.OutOfMemory) = HasRunOut command shelf
IsMade command shelf (Err (status.BadLine line rule)) = IsRuled command shelf (status.BadLine line rule)
IsMade command shelf (Err (status.BadLength len)) = IsRuled command shelf (status.BadLength len)

-- what a content gives, within the limit of the command
abbrev pub IsGiven : Command → List ℕ → Result (Vec ℕ Global) AsmStatus → Type 0
IsGiven command content (Ok bytes) = rule_content command content ≡ Made bytes.items
IsGiven command content (Err status.Done) = ⊥
IsGiven command content (Err status.Usage) = ⊥
IsGiven command content (Err status.ReadFault) = ⊥
IsGiven command content (Err (status.TooLong limit)) = ⊥
IsGiven command content (Err status.WriteFault) = ⊥
IsGiven command content (Err status.OutOfMemory) = ⊤
IsGiven command content (Err (status.BadLine line rule)) = rule_content command content ≡ Refused (status.BadLine line rule)
IsGiven command content (Err (status.BadLength len)) = rule_content command content ≡ Refused (status.BadLength len)

-- the status of a file that can't be had
abbrev pub status_of : ℕ → ShelfError → AsmStatus
status_of limit TooLong = status.TooLong limit
status_of limit Failed = status.ReadFault
status_of limit OutOfMemory = status.OutOfMemory

-- the bytes were put out whole, or cut short
abbrev pub IsShown : SinkUse → List ℕ → AsmStatus → Type 0
IsShown sink bytes status.Done = IsTaken sink bytes
IsShown sink bytes status.WriteFault = IsCut sink bytes
IsShown sink bytes status.Usage = ⊥
IsShown sink bytes status.ReadFault = ⊥
IsShown sink bytes (status.TooLong limit) = ⊥
IsShown sink bytes status.OutOfMemory = ⊥
IsShown sink bytes (status.BadLine line rule) = ⊥
IsShown sink bytes (status.BadLength len) = ⊥
