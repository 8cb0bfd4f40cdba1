-- What the parts of reading answer: the configuration, the packings, the images and the schedule. No public clause cites this module.
use Rattle.std.specs.Prelude.{◌≡◌, ◌≤◌, ℕ, List, [], ◌∷◌, Vec, Some, None, Result, Ok, Err, length, map, slice_get, ⊤}
use Rattle.std.specs.declared.alloc.Global.{Global}
use Rattle.bao_config.specs.Answer.{spelled}
use Rattle.bao_config.specs.Data.{ConfigData, VmData}
use Rattle.bao_wellformed.specs.declared.checked.Checked.{Checked}
use Rattle.bao_wellformed.specs.Checked.{checked_data}
use Rattle.bao_wellformed.specs.WellFormed.{first_ill}
use Rattle.mpu_packer.specs.declared.packing.PackError.{PackError}
use Rattle.mpu_packer.specs.declared.packing.PackError.TheVariants as pack
use Rattle.report.specs.declared.status.FileId.{FileId}
use Rattle.report.specs.declared.status.FileId.TheVariants as file
use Rattle.report.specs.declared.status.Status.{Status}
use Rattle.report.specs.declared.status.Status.TheVariants as status
use Rattle.schedule.specs.declared.error.ScheduleError.{ScheduleError}
use Rattle.schedule.specs.declared.error.ScheduleError.TheVariants as schedule_error
use Rattle.vm_model.specs.Apart.{FitRooms}
use Rattle.vm_create.specs.Boot.{ArePlans}
use Rattle.bao_run.specs.Words.{Run}
use Rattle.outside.specs.Shelf.{Files, IfHeld}
use Rattle.outside.specs.Use.{ShelfUse, IsFaultless, HasFailed}
use Rattle.bao_run.specs.Ruling.{Ruling, Refused, config_limit, image_limit, rule_config, rule_packing, rule_images}
use Rattle.bao_run.specs.Input.{files_of, first_named}
use Rattle.bao_run.specs.declared.config.Packed.{Packed}

-- the contents have a text of this name that spells the configuration, and it is well formed
pub record HoldsConfig (files : Files) (config : List ℕ) (cfg : ConfigData) : Type 0 where
  pub text : List ℕ
  pub held : files config ≡ Some text
  pub short : length text ≤ config_limit
  pub spells : spelled text ≡ Ok cfg
  pub well_formed : first_ill cfg ≡ None

-- the told text is refused so, whatever comes after it
abbrev pub RefusesConfig : ShelfUse → List ℕ → Status → Type 0
RefusesConfig shelf config status =
    IfHeld shelf.held (λ files. (next : ConfigData → Ruling) → rule_config next (files config) ≡ Refused status) × IsFaultless shelf

abbrev pub IsConfigAnswer : ShelfUse → List ℕ → Result Checked Status → Type 0
IsConfigAnswer shelf config (Ok checked) =
    IfHeld shelf.held (λ files. HoldsConfig files config (checked_data checked)) × IsFaultless shelf
IsConfigAnswer shelf config (Err status.Done) = ⊥
IsConfigAnswer shelf config (Err status.Usage) = ⊥
IsConfigAnswer shelf config (Err (status.ReadFault id)) = (id ≡ file.Config) × HasFailed shelf config
IsConfigAnswer shelf config (Err (status.TooLong file limit)) = RefusesConfig shelf config (status.TooLong file limit)
IsConfigAnswer shelf config (Err status.BadToml) = RefusesConfig shelf config status.BadToml
IsConfigAnswer shelf config (Err (status.IllConfig why)) = RefusesConfig shelf config (status.IllConfig why)
IsConfigAnswer shelf config (Err (status.TooMany core runs entries)) = ⊥
IsConfigAnswer shelf config (Err (status.BadSchedule line rule)) = ⊥
IsConfigAnswer shelf config (Err status.WriteFault) = ⊥
IsConfigAnswer shelf config (Err status.OutOfMemory) = IsFaultless shelf

-- all cores have a packing, so what comes after decides
abbrev pub IsPackable : ConfigData → Type 0
IsPackable cfg = (next : Ruling) → rule_packing next cfg 0 cfg.platform.cores ≡ next

-- this core is the first that has none
abbrev pub IsOverfull : ConfigData → ℕ → PackError → Type 0
IsOverfull cfg core (pack.TooMany runs entries) =
    (next : Ruling) → rule_packing next cfg 0 cfg.platform.cores ≡ Refused (status.TooMany core runs entries)
IsOverfull cfg core pack.OutOfMemory = ⊤

-- these are the contents of the images of the first VMs
abbrev pub AreImages : Files → List VmData → List (List ℕ) → Type 0
AreImages files vms [] = ⊤
AreImages files [] (image ∷ images) = ⊥
AreImages files (vm ∷ vms) (image ∷ images) =
    (files vm.image ≡ Some image) × (length image ≤ image_limit vm) × AreImages files vms images

-- the images before one of this name are there
pub record HasCome (files : Files) (cfg : ConfigData) (name : List ℕ) : Type 0 where
  pub images : List (List ℕ)
  pub come : AreImages files cfg.vms images
  pub here : slice_get (map (λ vm. vm.image) cfg.vms) (length images) ≡ Some name

-- a fault of the shelf at an image, told of the first file of its name
pub record IsImageFault (shelf : ShelfUse) (config schedule : List ℕ) (cfg : ConfigData) (file : FileId) : Type 0 where
  pub name : List ℕ
  pub failed : HasFailed shelf name
  pub first : first_named name (files_of (Run config schedule) cfg) ≡ Some file
  pub come : IfHeld shelf.held (λ files. HasCome files cfg name)

-- the images of all VMs
pub record HasImages (shelf : ShelfUse) (cfg : ConfigData) (images : List (List ℕ)) : Type 0 where
  pub rooms : FitRooms cfg images
  pub told : IfHeld shelf.held (λ files. AreImages files cfg.vms images)
  pub read : IsFaultless shelf

abbrev pub IsImagesAnswer : ShelfUse → List ℕ → List ℕ → ConfigData → Result (Vec (Vec ℕ Global) Global) Status → Type 0
IsImagesAnswer shelf config schedule cfg (Ok images) = HasImages shelf cfg (map (λ image. image.items) images.items)
IsImagesAnswer shelf config schedule cfg (Err status.Done) = ⊥
IsImagesAnswer shelf config schedule cfg (Err status.Usage) = ⊥
IsImagesAnswer shelf config schedule cfg (Err (status.ReadFault file)) = IsImageFault shelf config schedule cfg file
IsImagesAnswer shelf config schedule cfg (Err (status.TooLong file limit)) =
    IfHeld shelf.held (λ files. (next : List (List ℕ) → Ruling)
    → rule_images files next 0 cfg.vms ≡ Refused (status.TooLong file limit)) × IsFaultless shelf
IsImagesAnswer shelf config schedule cfg (Err status.BadToml) = ⊥
IsImagesAnswer shelf config schedule cfg (Err (status.IllConfig why)) = ⊥
IsImagesAnswer shelf config schedule cfg (Err (status.TooMany core runs entries)) = ⊥
IsImagesAnswer shelf config schedule cfg (Err (status.BadSchedule line rule)) = ⊥
IsImagesAnswer shelf config schedule cfg (Err status.WriteFault) = ⊥
IsImagesAnswer shelf config schedule cfg (Err status.OutOfMemory) = IsFaultless shelf

-- the status of a core that has no packing
abbrev pub packing_status : ℕ → PackError → Status
packing_status core (pack.TooMany runs entries) = status.TooMany core runs entries
packing_status core pack.OutOfMemory = status.OutOfMemory

-- a configuration whose cores all have a packing, with these
pub record IsPackedFor (cfg : ConfigData) (packed : Packed) : Type 0 where
  pub same : checked_data packed.checked ≡ cfg
  pub plans : ArePlans cfg packed.plans.items
  pub packable : IsPackable cfg

abbrev pub IsPackedAnswer : ConfigData → Result Packed Status → Type 0
IsPackedAnswer cfg (Ok packed) = IsPackedFor cfg packed
IsPackedAnswer cfg (Err status.Done) = ⊥
IsPackedAnswer cfg (Err status.Usage) = ⊥
IsPackedAnswer cfg (Err (status.ReadFault file)) = ⊥
IsPackedAnswer cfg (Err (status.TooLong file limit)) = ⊥
IsPackedAnswer cfg (Err status.BadToml) = ⊥
IsPackedAnswer cfg (Err (status.IllConfig why)) = ⊥
IsPackedAnswer cfg (Err (status.TooMany core runs entries)) = IsOverfull cfg core (pack.TooMany runs entries)
IsPackedAnswer cfg (Err (status.BadSchedule line rule)) = ⊥
IsPackedAnswer cfg (Err status.WriteFault) = ⊥
IsPackedAnswer cfg (Err status.OutOfMemory) = ⊤

-- the status of a schedule that isn't taken
abbrev pub schedule_status : ScheduleError → Status
schedule_status (schedule_error.Bad line rule) = status.BadSchedule line rule
schedule_status schedule_error.OutOfMemory = status.OutOfMemory
