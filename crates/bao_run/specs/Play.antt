-- What the parts of a run answer, between the reading of the files and the report.
use Rattle.std.specs.Prelude.{◌≡◌, ℕ, true, false, List, length}
use Rattle.outside.specs.Use.{SinkUse, IsTaken, IsCut, IsPut}
use Rattle.report.specs.declared.status.Status.{Status}
use Rattle.report.specs.declared.status.Status.TheVariants as status
use Rattle.bao_config.specs.Data.{ConfigData}
use Rattle.report.specs.Packing.{packing_text}
use Rattle.report.specs.Status.{refusal_text}
use Rattle.board.specs.Machine.{Machine}
use Rattle.vm_model.specs.Flat.{Flat, flat_run, entered_count}
use Rattle.vm_model.specs.Boot.{boot}
use Rattle.vgic_table.specs.Interrupts.{Interrupts, tables_of}
use Rattle.vm_model.specs.Project.{project}
use Rattle.bao_run.specs.Call.{InputData, BoardUse}
use Rattle.hypervisor.specs.Shape.{shape_of}
use Rattle.hypervisor.specs.Packed.{ArePacked, all_filled, packings}
use Rattle.hypervisor.specs.Tidy.{AreHeld}

-- the machine of the model at boot, and after all events
abbrev pub booted : InputData → Flat
booted input = boot input.cfg input.images

abbrev pub final : InputData → Flat
final input = flat_run input.cfg (booted input) input.events

-- All events were run: the board has the shape of the configuration for this many events; the entries of each core realise the
-- map, and are its packing with zero entries after it; each event whose core ran has entered it; and memory, cores, ports and
-- raised lines are those of the model, as are the interrupts of each VM, those in its cores' list registers and those kept besides.
pub record IsRunThrough (m : Machine) (input : InputData) : Type 0 where
  pub fitted : m.fitted ≡ true
  pub shape : m.shape ≡ shape_of input.cfg (length input.events)
  pub packed : ArePacked input.cfg m.entries
  pub entries : m.entries ≡ all_filled input.cfg.platform.cores (packings input.cfg)
  pub entered : m.entered ≡ entered_count input.cfg (booted input) input.events
  -- the interrupts of each VM that don't stand in list registers, which those that do fit
  pub kept : List Interrupts
  pub held : AreHeld input.cfg kept m.lists
  pub state : project input.cfg (final input).powers (tables_of kept) m ≡ final input

-- the board isn't fitted, and its ports' states are as before
abbrev pub IsUnfitted : BoardUse → Type 0
IsUnfitted board = (board.after.fitted ≡ false) × (board.after.ports ≡ board.before.ports)

-- what is put out at the end of a run: the report, or the summary
abbrev pub Text : Type 0
Text = ConfigData → Flat → List ℕ

-- all was run and the text was put out
pub record IsFinished (ending : Text) (input : InputData) (used : BoardUse) (sink : SinkUse) : Type 0 where
  pub board : IsRunThrough used.after input
  pub text : IsTaken sink (ending input.cfg (final input))

-- all was run and the sink failed at the text
pub record IsCutShort (ending : Text) (input : InputData) (used : BoardUse) (sink : SinkUse) : Type 0 where
  pub board : IsRunThrough used.after input
  pub text : IsCut sink (ending input.cfg (final input))

-- memory ran out while the board was fitted
pub record IsStarved (board : BoardUse) (sink : SinkUse) : Type 0 where
  pub unfitted : IsUnfitted board
  pub line : IsPut sink (refusal_text status.OutOfMemory)

-- by the status of a check: the packing was put out, whole or cut short
abbrev pub IsShowing : ConfigData → SinkUse → Status → Type 0
IsShowing cfg sink status.Done = IsTaken sink (packing_text cfg (packings cfg))
IsShowing cfg sink status.Usage = ⊥
IsShowing cfg sink (status.ReadFault file) = ⊥
IsShowing cfg sink (status.TooLong file limit) = ⊥
IsShowing cfg sink status.BadToml = ⊥
IsShowing cfg sink (status.IllConfig why) = ⊥
IsShowing cfg sink (status.TooMany core runs entries) = ⊥
IsShowing cfg sink (status.BadSchedule line rule) = ⊥
IsShowing cfg sink status.WriteFault = IsCut sink (packing_text cfg (packings cfg))
IsShowing cfg sink status.OutOfMemory = ⊥

-- by the status of a run that ends with this text: what it left of the board and the sink
abbrev pub IsPlayed : Text → InputData → BoardUse → SinkUse → Status → Type 0
IsPlayed text input board sink status.Done = IsFinished text input board sink
IsPlayed text input board sink status.Usage = ⊥
IsPlayed text input board sink (status.ReadFault file) = ⊥
IsPlayed text input board sink (status.TooLong file limit) = ⊥
IsPlayed text input board sink status.BadToml = ⊥
IsPlayed text input board sink (status.IllConfig why) = ⊥
IsPlayed text input board sink (status.TooMany core runs entries) = ⊥
IsPlayed text input board sink (status.BadSchedule line rule) = ⊥
IsPlayed text input board sink status.WriteFault = IsCutShort text input board sink
IsPlayed text input board sink status.OutOfMemory = IsStarved board sink
