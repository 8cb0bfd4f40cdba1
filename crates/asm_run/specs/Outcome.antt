-- What each answer of the top call means.
use Rattle.std.specs.Prelude.{◌≡◌, ℕ, List}
use Rattle.outside.specs.Shelf.{IfHeld}
use Rattle.outside.specs.Use.{ShelfUse, SinkUse, IsFaultless, HasFailed, IsTaken, IsCut, IsPut}
use Rattle.asm_run.specs.Words.{Command, Unknown, Names, command_of}
use Rattle.asm_run.specs.Call.{Call}
use Rattle.asm_run.specs.Ruling.{Made, Refused, rule_content, rule_command}
use Rattle.asm_run.specs.Status.{refusal_text}
use Rattle.asm_run.specs.declared.status.AsmStatus.{AsmStatus}
use Rattle.asm_run.specs.declared.status.AsmStatus.TheVariants as status

-- the file that the command names has a content of which these bytes are made; where contents are told, it is that one
pub record HasMade (command : Command) (shelf : ShelfUse) (bytes : List ℕ) : Type 0 where
  pub content : List ℕ
  pub made : rule_content command content ≡ Made bytes
  pub told : IfHeld shelf.held (λ files. rule_command command files ≡ Made bytes)
  pub read : IsFaultless shelf

-- what the told contents rule, and no fault of the shelf
pub record IsRuled (command : Command) (shelf : ShelfUse) (status : AsmStatus) : Type 0 where
  pub told : IfHeld shelf.held (λ files. rule_command command files ≡ Refused status)
  pub read : IsFaultless shelf

-- the shelf failed at the file of the command
pub record HasFault (command : Command) (shelf : ShelfUse) : Type 0 where
  pub name : List ℕ
  pub named : Names command name
  pub failed : HasFailed shelf name

-- memory ran out, for a command that names a file
pub record HasRunOut (command : Command) (shelf : ShelfUse) : Type 0 where
  pub name : List ℕ
  pub named : Names command name
  pub read : IsFaultless shelf

-- the bytes of an accepted file were put out so
pub record IsWritten (call : Call) (put : SinkUse → List ℕ → Type 0) : Type 0 where
  pub bytes : List ℕ
  pub made : HasMade (command_of call.words) call.shelf bytes
  pub text : put call.sink bytes

-- what each answer means; the line of a refusal was put out, or cut short by a fault of the sink
abbrev pub Outcome : Call → AsmStatus → Type 0
Outcome call status.Done = IsWritten call IsTaken
Outcome call status.Usage =
    (command_of call.words ≡ Unknown) × IsRuled (command_of call.words) call.shelf status.Usage × IsPut call.sink (refusal_text status.Usage)
Outcome call status.ReadFault = HasFault (command_of call.words) call.shelf × IsPut call.sink (refusal_text status.ReadFault)
Outcome call (status.TooLong limit) =
    IsRuled (command_of call.words) call.shelf (status.TooLong limit) × IsPut call.sink (refusal_text (status.TooLong limit))
Outcome call status.WriteFault = IsWritten call IsCut
Outcome call status.OutOfMemory = HasRunOut (command_of call.words) call.shelf × IsPut call.sink (refusal_text status.OutOfMemory)
Outcome call (status.BadLine line rule) =
    IsRuled (command_of call.words) call.shelf (status.BadLine line rule) × IsPut call.sink (refusal_text (status.BadLine line rule))
Outcome call (status.BadLength len) =
    IsRuled (command_of call.words) call.shelf (status.BadLength len) × IsPut call.sink (refusal_text (status.BadLength len))
