-- What reading the files of a command answers.
use Rattle.std.specs.Prelude.{◌≡◌, ◌<◌, ◌≤◌, ◌+◌, ℕ, List, [], ◌∷◌, ◌++◌, All, Vec, Option, Some, None, Result, Ok, Err, IsSomeAnd, if◌then◌else◌, length, map, find}
use Rattle.std.specs.declared.alloc.Global.{Global}
use Rattle.std.specs.Option.{option_map}
use Rattle.std.specs.Str.{bytes_eq}
use Rattle.bao_types.specs.Shape.{event_limit}
use Rattle.outside.specs.Shelf.{Files, IfHeld, IfTold}
use Rattle.outside.specs.Use.{ShelfUse, IsFaultless, HasFailed}
use Rattle.bao_config.specs.Data.{ConfigData, VmData}
use Rattle.bao_wellformed.specs.Checked.{checked_data}
use Rattle.report.specs.declared.status.FileId.{FileId}
use Rattle.report.specs.declared.status.FileId.TheVariants as file
use Rattle.report.specs.declared.status.Status.{Status}
use Rattle.report.specs.declared.status.Status.TheVariants as status
use Rattle.schedule.specs.Schedule.{Events, schedule_of}
use Rattle.hypervisor.specs.Event.{IsPlaced}
use Rattle.vm_model.specs.Apart.{FitRooms}
use Rattle.vm_create.specs.Boot.{ArePlans}
use Rattle.bao_run.specs.Words.{Command, Run, Check, Generate, Unknown, IsRun}
use Rattle.bao_run.specs.Call.{InputData}
use Rattle.bao_run.specs.Ruling.{Ruling, Refused, Missing, Shown, Accept, rule_command, workload}
use Rattle.hypervisor.specs.Event.{flat_event}
use Rattle.bao_run.specs.declared.input.Input.{Input}
use Rattle.bao_run.specs.declared.config.Packed.{Packed}

-- a file with its name
abbrev pub Named : Type 0
Named = FileId × List ℕ

-- the images of the VMs from place v on
abbrev pub image_names : ℕ → List VmData → List Named
image_names v [] = []
image_names v (vm ∷ vms) = (file.Image v, vm.image) ∷ image_names (v + 1) vms

-- the files of a command over a configuration, in the order in which they are read
abbrev pub files_of : Command → ConfigData → List Named
files_of (Run config schedule) cfg = (file.Config, config) ∷ image_names 0 cfg.vms ++ (file.Schedule, schedule) ∷ []
files_of (Check config) cfg = (file.Config, config) ∷ []
files_of (Generate number) cfg = []
files_of Unknown cfg = []

-- the first of these files that has the name
abbrev pub first_named : List ℕ → List Named → Option FileId
first_named name files = option_map (λ found. found.0) (find (λ named. bytes_eq named.1 name) files)

-- the contents, but for this name, which is missing
abbrev pub lacking : List ℕ → Files → Files
lacking name files other = if bytes_eq other name then None else files other

-- a fault of the shelf at a name. It is told of the first file of a command that has this name; and where the contents
-- are told, that is the file that would be missing if the name were
pub record IsFaultAt (shelf : ShelfUse) (command : Command) (file : FileId) : Type 0 where
  pub name : List ℕ
  pub failed : HasFailed shelf name
  pub cfg : ConfigData
  pub first : first_named name (files_of command cfg) ≡ Some file
  pub told : IfHeld shelf.held (λ files. rule_command (lacking name files) command ≡ Missing file)

-- what the told contents rule, and no fault of the shelf
abbrev pub IsRuledBy : ShelfUse → Command → Ruling → Type 0
IsRuledBy shelf command ruling = IfHeld shelf.held (λ files. rule_command files command ≡ ruling) × IsFaultless shelf

-- A refusal of a command while its files are read, by its status: a fault of the shelf; what the told contents rule; or want
-- of memory.
abbrev pub IsRefused : ShelfUse → Command → Status → Type 0
IsRefused shelf command status.Done = ⊥
IsRefused shelf command status.Usage = ⊥
IsRefused shelf command (status.ReadFault file) = IsFaultAt shelf command file
IsRefused shelf command (status.TooLong file limit) = IsRuledBy shelf command (Refused (status.TooLong file limit))
IsRefused shelf command status.BadToml = IsRuledBy shelf command (Refused status.BadToml)
IsRefused shelf command (status.IllConfig why) = IsRuledBy shelf command (Refused (status.IllConfig why))
IsRefused shelf command (status.TooMany core runs entries) = IsRuledBy shelf command (Refused (status.TooMany core runs entries))
IsRefused shelf command (status.BadSchedule line rule) =
    IsRun command × IsRuledBy shelf command (Refused (status.BadSchedule line rule))
IsRefused shelf command status.WriteFault = ⊥
IsRefused shelf command status.OutOfMemory = IsFaultless shelf

-- what an `Input` is made of
abbrev pub input_data : Input → InputData
input_data input =
    record {
      cfg = checked_data input.packed.checked;
      images = map (λ image. image.items) input.images.items;
      events = map flat_event input.events.items;
    }

-- the plans are the packings of the cores, each image fits its VM's room, and the events are of cores of the platform and of
-- assigned ports, no more than a board takes
pub record CanPlay (input : Input) : Type 0 where
  pub plans : ArePlans (checked_data input.packed.checked) input.packed.plans.items
  pub rooms : FitRooms (checked_data input.packed.checked) (map (λ image. image.items) input.images.items)
  pub placed : All (IsPlaced (checked_data input.packed.checked)) input.events.items
  pub few : length input.events.items ≤ event_limit

-- the input that the told contents give
pub record IsInput (shelf : ShelfUse) (command : Command) (input : Input) : Type 0 where
  pub told : IsRuledBy shelf command (Accept (input_data input))
  pub spelled : (bytes : List ℕ) × (schedule_of (checked_data input.packed.checked) bytes ≡ Events input.events.items)
  pub playable : CanPlay input

-- the workload of a number
pub record IsWorkload (number : ℕ) (input : Input) : Type 0 where
  pub made : input_data input ≡ workload number
  pub playable : CanPlay input

abbrev pub IsAnswer : ShelfUse → Command → Result Input Status → Type 0
IsAnswer shelf command (Ok input) = IsInput shelf command input
IsAnswer shelf command (Err status) = IsRefused shelf command status

-- the configuration that the told contents give, with the packings of its cores
pub record IsShown (shelf : ShelfUse) (command : Command) (packed : Packed) : Type 0 where
  pub told : IsRuledBy shelf command (Shown (checked_data packed.checked))
  pub plans : ArePlans (checked_data packed.checked) packed.plans.items

abbrev pub IsCheckAnswer : ShelfUse → Command → Result Packed Status → Type 0
IsCheckAnswer shelf command (Ok packed) = IsShown shelf command packed
IsCheckAnswer shelf command (Err status) = IsRefused shelf command status

-- a file to be read, its name, the file that a fault is told of, and how many bytes it may have
pub record Wanted : Type 0 where
  pub file : FileId
  pub blamed : FileId
  pub name : List ℕ
  pub limit : ℕ

-- what fetching one file answers
abbrev pub IsFetch : ShelfUse → Wanted → Result (Vec ℕ Global) Status → Type 0
IsFetch shelf wanted (Ok bytes) =
    IfTold shelf.held wanted.name (λ content. content ≡ Some bytes.items) × (length bytes.items ≤ wanted.limit)
    × IsFaultless shelf
IsFetch shelf wanted (Err status.Done) = ⊥
IsFetch shelf wanted (Err status.Usage) = ⊥
IsFetch shelf wanted (Err (status.ReadFault file)) = (file ≡ wanted.blamed) × HasFailed shelf wanted.name
IsFetch shelf wanted (Err (status.TooLong file limit)) =
    IfTold shelf.held wanted.name (λ content. IsSomeAnd content (λ bytes. wanted.limit < length bytes))
    × (file ≡ wanted.file) × (limit ≡ wanted.limit) × IsFaultless shelf
IsFetch shelf wanted (Err status.BadToml) = ⊥
IsFetch shelf wanted (Err (status.IllConfig why)) = ⊥
IsFetch shelf wanted (Err (status.TooMany core runs entries)) = ⊥
IsFetch shelf wanted (Err (status.BadSchedule line rule)) = ⊥
IsFetch shelf wanted (Err status.WriteFault) = ⊥
IsFetch shelf wanted (Err status.OutOfMemory) = IsFaultless shelf
