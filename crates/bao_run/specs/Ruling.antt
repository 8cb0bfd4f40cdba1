-- What words and contents rule, in the order in which things are looked at.
use Rattle.std.specs.Prelude.{ℕ, ◌+◌, ◌-◌, ◌^◌, min, nat_lt, if◌then◌else◌, List, [], ◌∷◌, length, map, Option, None, Some, Result, Ok, Err}
use Rattle.report.specs.declared.status.FileId.{FileId}
use Rattle.report.specs.declared.status.FileId.TheVariants as file
use Rattle.report.specs.declared.status.Why.TheVariants as why
use Rattle.report.specs.declared.status.Status.{Status}
use Rattle.report.specs.declared.status.Status.TheVariants as status
use Rattle.bao_config.specs.declared.error.ConfigError.{ConfigError}
use Rattle.bao_config.specs.declared.error.ConfigError.TheVariants.{BadToml, BadShape, BadValue, OutOfMemory}
use Rattle.bao_config.specs.Answer.{spelled}
use Rattle.bao_config.specs.Data.{ConfigData, VmData}
use Rattle.bao_wellformed.specs.declared.ill.Ill.{Ill}
use Rattle.bao_wellformed.specs.WellFormed.{first_ill}
use Rattle.mpu_packer.specs.Runs.{core_runs}
use Rattle.schedule.specs.Schedule.{ScheduleAnswer, Events, Broken, schedule_of}
use Rattle.schedule.specs.Workload.{workload_config, workload_events, workload_images}
use Rattle.bao_run.specs.Words.{Command, Run, Check, Generate, Unknown, command_of}
use Rattle.outside.specs.Shelf.{Files}
use Rattle.bao_run.specs.Call.{InputData}
use Rattle.hypervisor.specs.Event.{flat_event}

-- a refusal, a file that is missing, a configuration whose packing is to be shown, or an input to run
pub data Ruling : Type 0 where
  Refused : Status → Ruling
  Missing : FileId → Ruling
  Shown : ConfigData → Ruling
  Accept : InputData → Ruling

-- how many bytes a configuration, a schedule and the image of a VM may have
abbrev pub config_limit : ℕ
config_limit = 65536

abbrev pub schedule_limit : ℕ
schedule_limit = 33554432

abbrev pub image_limit : VmData → ℕ
image_limit vm = min vm.place.size (2 ^ 32 - 1)

abbrev pub too_long : FileId → ℕ → Ruling
too_long file limit = Refused (status.TooLong file limit)

-- the generated workload of a number
abbrev pub workload : ℕ → InputData
workload number =
    record {
      cfg = workload_config number;
      images = workload_images number;
      events = map flat_event (workload_events number);
    }

-- the schedule, for a configuration and its images
abbrev pub rule_events : ConfigData → List (List ℕ) → ScheduleAnswer → Ruling
rule_events cfg images (Events events) = Accept (record { cfg = cfg; images = images; events = map flat_event events })
rule_events cfg images (Broken line rule) = Refused (status.BadSchedule line rule)

abbrev pub rule_schedule : ConfigData → List (List ℕ) → Option (List ℕ) → Ruling
rule_schedule cfg images None = Missing file.Schedule
rule_schedule cfg images (Some bytes) =
    if nat_lt schedule_limit (length bytes) then too_long file.Schedule schedule_limit
    else rule_events cfg images (schedule_of cfg bytes)

-- the image of the VM at place v, and what comes after it
abbrev pub rule_image : (List ℕ → Ruling) → ℕ → VmData → Option (List ℕ) → Ruling
rule_image next v vm None = Missing (file.Image v)
rule_image next v vm (Some image) =
    if nat_lt (image_limit vm) (length image) then too_long (file.Image v) (image_limit vm) else next image

-- the images of the VMs from place v on, and what comes after them
abbrev pub rule_images : Files → (List (List ℕ) → Ruling) → ℕ → List VmData → Ruling
rule_images files next v [] = next []
rule_images files next v (vm ∷ vms) =
    rule_image (λ image. rule_images files (λ images. next (image ∷ images)) (v + 1) vms) v vm (files vm.image)

-- images and schedule
abbrev pub rule_files : Files → List ℕ → ConfigData → Ruling
rule_files files schedule cfg = rule_images files (λ images. rule_schedule cfg images (files schedule)) 0 cfg.vms

-- the cores from a number on: the first that has more runs than entries is refused
abbrev pub rule_packing : Ruling → ConfigData → ℕ → List ℕ → Ruling
rule_packing next cfg core [] = next
rule_packing next cfg core (most ∷ others) =
    if nat_lt most (length (core_runs cfg core)) then Refused (status.TooMany core (length (core_runs cfg core)) most)
    else rule_packing next cfg (core + 1) others

-- a well-formed configuration that is to be run, or to be checked
abbrev pub rule_run : Files → List ℕ → ConfigData → Ruling
rule_run files schedule cfg = rule_packing (rule_files files schedule cfg) cfg 0 cfg.platform.cores

abbrev pub rule_check : ConfigData → Ruling
rule_check cfg = rule_packing (Shown cfg) cfg 0 cfg.platform.cores

-- the rules of a configuration
abbrev pub rule_breaks : (ConfigData → Ruling) → ConfigData → Option Ill → Ruling
rule_breaks next cfg None = next cfg
rule_breaks next cfg (Some ill) = Refused (status.IllConfig (why.Rule ill))

-- the status of a fault; reading a configuration ends with want of memory only where there is want of memory
abbrev pub status_of : ConfigError → Status
status_of BadToml = status.BadToml
status_of (BadShape spot) = status.IllConfig (why.Shape spot)
status_of (BadValue spot value) = status.IllConfig (why.Value spot value)
status_of OutOfMemory = status.OutOfMemory

abbrev pub rule_spelled : (ConfigData → Ruling) → Result ConfigData ConfigError → Ruling
rule_spelled next (Ok cfg) = rule_breaks next cfg (first_ill cfg)
rule_spelled next (Err fault) = Refused (status_of fault)

-- the configuration, and what comes after it
abbrev pub rule_config : (ConfigData → Ruling) → Option (List ℕ) → Ruling
rule_config next None = Missing file.Config
rule_config next (Some bytes) =
    if nat_lt config_limit (length bytes) then too_long file.Config config_limit else rule_spelled next (spelled bytes)

abbrev pub rule_command : Files → Command → Ruling
rule_command files (Run config schedule) = rule_config (rule_run files schedule) (files config)
rule_command files (Check config) = rule_config rule_check (files config)
rule_command files (Generate number) = Accept (workload number)
rule_command files Unknown = Refused status.Usage

abbrev pub ruling : List (List ℕ) → Files → Ruling
ruling words files = rule_command files (command_of words)
