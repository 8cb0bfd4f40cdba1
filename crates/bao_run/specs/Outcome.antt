-- What each answer of the top call means.
use Rattle.std.specs.Prelude.{◌≡◌, ℕ, ◌+◌, ◌⊎◌, List, [], ◌∷◌, ◌++◌, map}
use Rattle.bao_config.specs.Data.{ConfigData, VmData}
use Rattle.bao_config.specs.Fits.{ConfigFits}
use Rattle.bao_wellformed.specs.WellFormed.{IsWellFormed}
use Rattle.report.specs.declared.status.FileId.{FileId}
use Rattle.report.specs.declared.status.Status.{Status}
use Rattle.report.specs.declared.status.Status.TheVariants as status
use Rattle.report.specs.Lines.{done_line}
use Rattle.report.specs.Packing.{packing_text}
use Rattle.report.specs.Section.{report, section}
use Rattle.report.specs.Summary.{summary, summary_at}
use Rattle.report.specs.Status.{refusal_text}
use Rattle.outside.specs.Shelf.{IfHeld}
use Rattle.outside.specs.Sink.{grown}
use Rattle.outside.specs.Use.{SinkUse, IsFaultless, IsTaken, IsCut, IsPut}
use Rattle.vm_model.specs.Apart.{FitRooms}
use Rattle.vm_model.specs.Flat.{Flat}
use Rattle.vm_model.specs.Lone.{only, lone}
use Rattle.hypervisor.specs.Event.{flat_event}
use Rattle.hypervisor.specs.declared.event.Event.{Event}
use Rattle.bao_run.specs.Words.{Command, Run, Check, Generate, Unknown, IsCommand, Reads, IsRun, IsCheck, command_of}
use Rattle.bao_run.specs.Call.{InputData, Call}
use Rattle.bao_run.specs.Ruling.{Refused, Shown, Accept, ruling, workload}
use Rattle.bao_run.specs.Input.{IsFaultAt}
use Rattle.hypervisor.specs.Packed.{packings}
use Rattle.bao_run.specs.Schedule.{IsSpelled}
use Rattle.bao_run.specs.Play.{Text, IsUnfitted, IsPlayed}

-- what a run can be made of: a well-formed configuration whose cores all have a packing, an image for each of its VMs, each of at
-- most its room, and events such as a schedule has
pub record IsRunnable (input : InputData) : Type 0 where
  pub well_formed : IsWellFormed input.cfg
  pub fits : ConfigFits input.cfg
  pub rooms : FitRooms input.cfg input.images
  pub said : List Event
  pub taken : input.events ≡ map flat_event said

-- what a command runs: events that some schedule spells, or the workload of a number
abbrev pub IsOf : Command → InputData → Type 0
IsOf (Run config schedule) input = IsSpelled input.cfg input.events
IsOf (Check config) input = ⊥
IsOf (Generate number) input = input ≡ workload number
IsOf Unknown input = ⊥

-- and the text with which it ends; the commands that run nothing have none
abbrev pub ending : Command → Text
ending (Run config schedule) = report
ending (Check config) = λ cfg f. []
ending (Generate number) = summary
ending Unknown = λ cfg f. []

-- an accepted input: the told contents are accepted with it, and it can be run
pub record IsAccepted (call : Call) (input : InputData) : Type 0 where
  pub made : IsOf (command_of call.words) input
  pub runnable : IsRunnable input
  pub told : IfHeld call.shelf.held (λ files. ruling call.words files ≡ Accept input)
  pub read : IsFaultless call.shelf

-- a refusal before anything was done to the board, with its line
pub record IsRefusedAtOnce (call : Call) (status : Status) : Type 0 where
  pub board : call.board.after ≡ call.board.before
  pub line : IsPut call.sink (refusal_text status)

-- what the told contents rule, and no fault of the shelf
pub record IsRuled (call : Call) (status : Status) : Type 0 where
  pub told : IfHeld call.shelf.held (λ files. ruling call.words files ≡ Refused status)
  pub read : IsFaultless call.shelf
  pub refused : IsRefusedAtOnce call status

-- the shelf failed at a file of the command
pub record IsReadFault (call : Call) (file : FileId) : Type 0 where
  pub fault : IsFaultAt call.shelf (command_of call.words) file
  pub refused : IsRefusedAtOnce call (status.ReadFault file)

-- an accepted input was run, as far as this status says
pub record IsRunTo (call : Call) (status : Status) (input : InputData) : Type 0 where
  pub accepted : IsAccepted call input
  pub played : IsPlayed (ending (command_of call.words)) input call.board call.sink status

-- all was run, and the text was put out whole
abbrev pub IsDone : Call → InputData → Type 0
IsDone call = IsRunTo call status.Done

-- a well-formed configuration's packing was put out whole, or was cut short; the board stays
pub record IsChecked (call : Call) (put : SinkUse → List ℕ → Type 0) : Type 0 where
  pub check : IsCheck (command_of call.words)
  pub cfg : ConfigData
  pub well_formed : IsWellFormed cfg
  pub told : IfHeld call.shelf.held (λ files. ruling call.words files ≡ Shown cfg)
  pub read : IsFaultless call.shelf
  pub board : call.board.after ≡ call.board.before
  pub text : put call.sink (packing_text cfg (packings cfg))

-- memory ran out: the board isn't fitted, and its ports' states stay
pub record IsOutOfMemory (call : Call) : Type 0 where
  pub command : IsCommand (command_of call.words)
  pub read : IsFaultless call.shelf
  pub unfitted : IsUnfitted call.board
  pub line : IsPut call.sink (refusal_text status.OutOfMemory)

abbrev pub ForSomeInput : (InputData → Type 0) → Type 0
ForSomeInput P = (input : InputData) × P input

-- what each answer means
abbrev pub Outcome : Call → Status → Type 0
Outcome call status.Done = ForSomeInput (IsDone call) ⊎ IsChecked call IsTaken
Outcome call status.Usage = (command_of call.words ≡ Unknown) × IsRuled call status.Usage
Outcome call (status.ReadFault file) = IsReadFault call file
Outcome call (status.TooLong file limit) = Reads (command_of call.words) × IsRuled call (status.TooLong file limit)
Outcome call status.BadToml = Reads (command_of call.words) × IsRuled call status.BadToml
Outcome call (status.IllConfig why) = Reads (command_of call.words) × IsRuled call (status.IllConfig why)
Outcome call (status.TooMany core runs entries) =
    Reads (command_of call.words) × IsRuled call (status.TooMany core runs entries)
Outcome call (status.BadSchedule line rule) =
    IsRun (command_of call.words) × IsRuled call (status.BadSchedule line rule)
Outcome call status.WriteFault = ForSomeInput (IsRunTo call status.WriteFault) ⊎ IsChecked call IsCut
Outcome call status.OutOfMemory = IsOutOfMemory call

-- what is told of VMs, each after its own run alone on the machine
unfoldable pub lone_texts : (ConfigData → Flat → ℕ → List ℕ) → InputData → ℕ → List VmData → List ℕ
lone_texts text input v [] = []
lone_texts text input v (vm ∷ vms) =
    text (only input.cfg v) (lone input.cfg input.images input.events v) 0 ++ lone_texts text input (v + 1) vms

-- the text with which a command ends, as each VM alone on the machine would give its section of the report, or its line of the
-- summary
abbrev pub lone_ending : Command → InputData → List ℕ
lone_ending (Run config schedule) input = lone_texts section input 0 input.cfg.vms ++ done_line
lone_ending (Check config) input = []
lone_ending (Generate number) input = lone_texts summary_at input 0 input.cfg.vms ++ done_line
lone_ending Unknown input = []

-- The isolation of the VMs: all was run, and the text shows of each VM what it would show if it were alone. Both are said of
-- the same input.
pub record IsIsolated (call : Call) (input : InputData) : Type 0 where
  pub done : IsDone call input
  pub text : call.sink.taken_after ≡ grown call.sink.taken_before (lone_ending (command_of call.words) input)
