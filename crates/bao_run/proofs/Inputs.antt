-- What the parts of reading answer is what the command rules.
use Rattle.std.proofs.Common.{◌≡◌, ℕ, ◌+◌, ◌<◌, ◌≤◌, Bool, true, false, List, [], ◌∷◌, ◌++◌, length, find, cond, drop, map, Option, None, Some, Err, refl, sym, subst, ap, ◌∙◌, arith, append-nil}
use Rattle.std.specs.Prelude.{Result, Ok, IsSomeAnd, if◌then◌else◌, nat_lt, unwrap_or}
use Rattle.std.specs.Option.{option_map}
use Rattle.std.specs.Str.{bytes_eq}
use Rattle.std.proofs.Math.ListN.{drop_of_length-le}
use Rattle.std.proofs.lemmas.Bool.Decides.{nat_tests}
use Rattle.bao_config.specs.Data.{ConfigData, VmData}
use Rattle.bao_wellformed.specs.Checked.{checked_data}
use Rattle.outside.specs.Faults.{risen}
use Rattle.outside.specs.Shelf.{Blame, Files, IfHeld, IfTold}
use Rattle.outside.specs.Use.{ShelfUse, IsFaultless}
use Rattle.outside.proofs.Told.{every, follows, both}
use Rattle.report.specs.declared.status.FileId.{FileId}
use Rattle.report.specs.declared.status.FileId.TheVariants as file
use Rattle.report.specs.declared.status.Status.{Status}
use Rattle.report.specs.declared.status.Status.TheVariants as status
use Rattle.vm_create.specs.Boot.{ArePlans}
use Rattle.bao_run.specs.Words.{Command, Run, Check}
use Rattle.schedule.specs.Answer.{TellsBroken}
use Rattle.schedule.specs.Schedule.{Events, schedule_of}
use Rattle.schedule.specs.declared.error.ScheduleError.{ScheduleError}
use Rattle.schedule.specs.declared.error.ScheduleError.TheVariants as schedule_error
use Rattle.hypervisor.specs.declared.event.Event.{Event}
use Rattle.bao_run.specs.Ruling.{Ruling, Refused, Missing, Shown, Accept, rule_command, rule_config, rule_check, rule_run, rule_files, rule_images, rule_schedule, rule_events, schedule_limit}
use Rattle.hypervisor.specs.Event.{flat_event}
use Rattle.bao_run.specs.declared.config.Packed.{Packed}
use Rattle.bao_run.specs.Input.{IsFetch, IsCheckAnswer, IsRefused, IsRuledBy, Named, files_of, first_named, lacking}
use Rattle.bao_run.specs.Reading.{HoldsConfig, IsConfigAnswer, AreImages, HasCome, HasImages, IsImagesAnswer, IsPackedAnswer, IsPackedFor, IsPackable, schedule_status}
use Rattle.bao_run.proofs.Rules.{config_passes, images_pass, same_itself, IsNext, names, missed, is_next, at_schedule}
use Rattle.bao_run.proofs.Fetches.{schedule_told}

-- some configuration; of a fault at the configuration's own name none is known
no_config : ConfigData
no_config =
    record {
      version = 1;
      platform = record { banks = []; cores = []; gicd = 0; gicr = 0; ports = [] };
      hyp = record { base = 0; size = 0 };
      shmems = [];
      vms = [];
    }

-- a command that reads a configuration first
module _ (shelf : ShelfUse) (config : List ℕ) (command : Command) (next : Files → ConfigData → Ruling)
    (rules : (files : Files) → rule_command files command ≡ rule_config (next files) (files config))
    (first : (cfg : ConfigData) → first_named config (files_of command cfg) ≡ Some file.Config) where
  missing : (files : Files) → rule_command (lacking config files) command ≡ Missing file.Config
  missing files = rules (lacking config files) ∙ rw (same_itself config) refl

  refused : (decided : Status) → IfHeld shelf.held (λ files. (next : ConfigData → Ruling) → rule_config next (files config) ≡ Refused decided) × IsFaultless shelf
      → IsRuledBy shelf command (Refused decided)
  refused decided h = (
    follows shelf.held (λ files. (next : ConfigData → Ruling) → rule_config next (files config) ≡ Refused decided)
        (λ files. rule_command files command ≡ Refused decided) (λ files all. rules files ∙ all (next files)) h.0,
    h.1,
  )

  config_refused : (decided : Status) → IsConfigAnswer shelf config (Err decided) → IsRefused shelf command decided
  config_refused status.Done h = absurd h
  config_refused status.Usage h = absurd h
  config_refused (status.ReadFault id) h = record {
    name = config;
    failed = h.1;
    cfg = no_config;
    first = first no_config ∙ ap Some (sym h.0);
    told = every shelf.held (λ files. rule_command (lacking config files) command ≡ Missing id)
        (λ files. missing files ∙ ap Missing (sym h.0));
  }
  config_refused (status.TooLong file limit) h = refused (status.TooLong file limit) h
  config_refused status.BadToml h = refused status.BadToml h
  config_refused (status.IllConfig why) h = refused (status.IllConfig why) h
  config_refused (status.TooMany core runs entries) h = absurd h
  config_refused (status.BadSchedule line rule) h = absurd h
  config_refused status.WriteFault h = absurd h
  config_refused status.OutOfMemory h = h

config_first : (config : List ℕ) (others : List (FileId × List ℕ)) → first_named config ((file.Config, config) ∷ others) ≡ Some file.Config
config_first config others = rw (same_itself config) refl

pub run_config_refused : (shelf : ShelfUse) (config schedule : List ℕ) (decided : Status) → IsConfigAnswer shelf config (Err decided)
    → IsRefused shelf (Run config schedule) decided
run_config_refused shelf config schedule decided h =
    config_refused shelf config (Run config schedule) (λ files. rule_run files schedule) (λ files. refl)
    (λ cfg. config_first config _) decided h

pub check_config_refused : (shelf : ShelfUse) (config : List ℕ) (decided : Status) → IsConfigAnswer shelf config (Err decided)
    → IsRefused shelf (Check config) decided
check_config_refused shelf config decided h =
    config_refused shelf config (Check config) (λ files. rule_check) (λ files. refl) (λ cfg. config_first config []) decided h

-- a check of a well-formed configuration
module _ (shelf : ShelfUse) (config : List ℕ) (cfg : ConfigData) (holds : IfHeld shelf.held (λ files. HoldsConfig files config cfg))
    (faultless : IsFaultless shelf) where
  pub check_rules : (decided : Ruling) → rule_check cfg ≡ decided → IsRuledBy shelf (Check config) decided
  check_rules decided rules = (
    follows shelf.held (λ files. HoldsConfig files config cfg) (λ files. rule_command files (Check config) ≡ decided)
        (λ files it. config_passes files config cfg it rule_check ∙ rules) holds,
    faultless,
  )

  pub check_answer : (answer : Result Packed Status) → IsPackedAnswer cfg answer → IsCheckAnswer shelf (Check config) answer
  check_answer (Ok packed) h = record {
    told = subst (λ cfg. IsRuledBy shelf (Check config) (Shown cfg)) (sym h.same) (check_rules (Shown cfg) (h.packable (Shown cfg)));
    plans = subst (λ cfg. ArePlans cfg packed.plans.items) (sym h.same) h.plans;
  }
  check_answer (Err status.Done) h = absurd h
  check_answer (Err status.Usage) h = absurd h
  check_answer (Err (status.ReadFault file)) h = absurd h
  check_answer (Err (status.TooLong file limit)) h = absurd h
  check_answer (Err status.BadToml) h = absurd h
  check_answer (Err (status.IllConfig why)) h = absurd h
  check_answer (Err (status.TooMany core runs entries)) h = check_rules (Refused (status.TooMany core runs entries)) (h (Shown cfg))
  check_answer (Err (status.BadSchedule line rule)) h = absurd h
  check_answer (Err status.WriteFault) h = absurd h
  check_answer (Err status.OutOfMemory) h = faultless

-- a run of a well-formed configuration
module _ (shelf : ShelfUse) (config schedule : List ℕ) (cfg : ConfigData) (holds : IfHeld shelf.held (λ files. HoldsConfig files config cfg)) where
  run_rules : (P : Files → Type 0) (decided : Ruling) → IfHeld shelf.held P → ((files : Files) → P files → rule_run files schedule cfg ≡ decided)
      → IfHeld shelf.held (λ files. rule_command files (Run config schedule) ≡ decided)
  run_rules P decided told rules =
      both shelf.held (λ files. HoldsConfig files config cfg) P (λ files. rule_command files (Run config schedule) ≡ decided)
      (λ files it p. config_passes files config cfg it (rule_run files schedule) ∙ rules files p) holds told

  pub packing_refused : IsFaultless shelf → (decided : Status) → IsPackedAnswer cfg (Err decided) → IsRefused shelf (Run config schedule) decided
  packing_refused faultless status.Done h = absurd h
  packing_refused faultless status.Usage h = absurd h
  packing_refused faultless (status.ReadFault file) h = absurd h
  packing_refused faultless (status.TooLong file limit) h = absurd h
  packing_refused faultless status.BadToml h = absurd h
  packing_refused faultless (status.IllConfig why) h = absurd h
  packing_refused faultless (status.TooMany core runs entries) h = (
    run_rules (λ files. HoldsConfig files config cfg) (Refused (status.TooMany core runs entries)) holds
        (λ files it. h (rule_files files schedule cfg)),
    faultless,
  )
  packing_refused faultless (status.BadSchedule line rule) h = absurd h
  packing_refused faultless status.WriteFault h = absurd h
  packing_refused faultless status.OutOfMemory h = faultless

  -- images and schedule decide
  module _ (packable : IsPackable cfg) where
    rules : (files : Files) → rule_run files schedule cfg ≡ rule_files files schedule cfg
    rules files = packable (rule_files files schedule cfg)

    -- where a name is told as missing, the first file of that name is missed
    module _ (files : Files) (it : HoldsConfig files config cfg) (name : List ℕ) (images : List (List ℕ)) (come : AreImages files cfg.vms images)
        (here : IsNext files name schedule cfg.vms images) (first : FileId) where
      without_config : (b : Bool) → bytes_eq config name ≡ b
          → option_map (λ (f : Named). f.0) (cond b (Some (file.Config, config)) (find (λ named. bytes_eq named.1 name) (names files name schedule 0 cfg.vms)))
          ≡ Some first
          → rule_config (rule_run (lacking name files) schedule) (if b then None else files config) ≡ Missing first
      without_config true is found = cc
      without_config false is found =
          config_passes files config cfg it (rule_run (lacking name files) schedule) ∙ rules (lacking name files)
          ∙ missed files name schedule (λ images. rule_schedule cfg images (lacking name files schedule)) (λ is images. rw is refl)
          0 cfg.vms images come here first found

      missed_first : first_named name (files_of (Run config schedule) cfg) ≡ Some first
          → rule_command (lacking name files) (Run config schedule) ≡ Missing first
      missed_first found = without_config (bytes_eq config name) refl found

    -- a refusal at an image; the shelf had as many faults before it as at the start
    module _ (start : Blame) (same_faults : shelf.before.faults ≡ start.faults) where
      abbrev whole : ShelfUse
      whole = record { held = shelf.held; before = start; after = shelf.after }

      images_stop : (decided : Status)
          → IfHeld shelf.held (λ files. (next : List (List ℕ) → Ruling) → rule_images files next 0 cfg.vms ≡ Refused decided)
          → IfHeld shelf.held (λ files. rule_command files (Run config schedule) ≡ Refused decided)
      images_stop decided told =
          run_rules (λ files. (next : List (List ℕ) → Ruling) → rule_images files next 0 cfg.vms ≡ Refused decided) (Refused decided) told
          (λ files all. rules files ∙ all (λ images. rule_schedule cfg images (files schedule)))

      pub images_refused : (decided : Status) → IsImagesAnswer shelf config schedule cfg (Err decided) → IsRefused whole (Run config schedule) decided
      images_refused status.Done h = absurd h
      images_refused status.Usage h = absurd h
      images_refused (status.ReadFault id) h = record {
        name = h.name;
        failed = (h.failed.0 ∙ ap risen same_faults, h.failed.1);
        cfg = cfg;
        first = h.first;
        told = both shelf.held (λ files. HoldsConfig files config cfg) (λ files. HasCome files cfg h.name)
            (λ files. rule_command (lacking h.name files) (Run config schedule) ≡ Missing id)
            (λ files it come. missed_first files it h.name come.images come.come
            (is_next files h.name schedule cfg.vms come.images come.here) id h.first) holds h.come;
      }
      images_refused (status.TooLong id limit) h = (images_stop (status.TooLong id limit) h.0, h.1 ∙ same_faults)
      images_refused status.BadToml h = absurd h
      images_refused (status.IllConfig why) h = absurd h
      images_refused (status.TooMany core runs entries) h = absurd h
      images_refused (status.BadSchedule line rule) h = absurd h
      images_refused status.WriteFault h = absurd h
      images_refused status.OutOfMemory h = h ∙ same_faults

-- What a run has read before its schedule: a well-formed configuration all of whose cores have a packing, and the image of each
-- VM. The shelf has as many faults there as at the start.
pub record HasRead (config : List ℕ) (cfg : ConfigData) (images : List (List ℕ)) (start : Blame) (shelf : ShelfUse) : Type 0 where
  pub holds : IfHeld shelf.held (λ files. HoldsConfig files config cfg)
  pub packable : IsPackable cfg
  pub count : length images ≡ length cfg.vms
  pub told : IfHeld shelf.held (λ files. AreImages files cfg.vms images)
  pub same_faults : shelf.before.faults ≡ start.faults

-- it has, once each call before has answered
pub has_read : (found : ConfigData) (packed : Packed) (config : List ℕ) (images : List (List ℕ)) (first second : ShelfUse) (new : Blame)
    → second.held ≡ first.held → second.before.faults ≡ first.after.faults
    → IfHeld first.held (λ files. HoldsConfig files config found) × IsFaultless first → IsPackedFor found packed
    → HasImages second (checked_data packed.checked) images
    → HasRead config (checked_data packed.checked) images first.before (record { held = first.held; before = second.after; after = new })
has_read found packed config images first second new held faults checked packs has = record {
  holds = subst (λ cfg. IfHeld first.held (λ files. HoldsConfig files config cfg)) (sym packs.same) checked.0;
  packable = subst IsPackable (sym packs.same) packs.packable;
  count = has.rooms.count;
  told = subst (λ held. IfHeld held (λ files. AreImages files (checked_data packed.checked).vms images)) held has.told;
  same_faults = has.read ∙ faults ∙ checked.1;
}

-- all images have come: the schedule decides
module _ (config schedule : List ℕ) (cfg : ConfigData) (images : List (List ℕ)) (start : Blame) (shelf : ShelfUse)
    (read : HasRead config cfg images start shelf) where
  abbrev from_start : ShelfUse
  from_start = record { held = shelf.held; before = start; after = shelf.after }

  schedule_rules : (files : Files) → HoldsConfig files config cfg → AreImages files cfg.vms images
      → rule_command files (Run config schedule) ≡ rule_schedule cfg images (files schedule)
  schedule_rules files it come =
      config_passes files config cfg it (rule_run files schedule) ∙ rules shelf config schedule cfg read.holds read.packable files
      ∙ images_pass files (λ images. rule_schedule cfg images (files schedule)) 0 cfg.vms images come
      ∙ none_left (drop (length images) cfg.vms) (drop_of_length-le cfg.vms (let count = read.count in omega (arith, count)))
    where
      none_left : (vms : List VmData) → vms ≡ []
          → rule_images files (λ others. rule_schedule cfg (images ++ others) (files schedule)) (0 + length images) vms
          ≡ rule_schedule cfg images (files schedule)
      none_left [] e = ap (λ images. rule_schedule cfg images (files schedule)) (append-nil images)
      none_left (vm ∷ vms) e = cc

  by_schedule : (P : Files → Type 0) (decided : Ruling) → IfHeld shelf.held P
      → ((files : Files) → P files → rule_schedule cfg images (files schedule) ≡ decided)
      → IfHeld shelf.held (λ files. rule_command files (Run config schedule) ≡ decided)
  by_schedule P decided told step =
      both shelf.held (λ files. HoldsConfig files config cfg) (λ files. AreImages files cfg.vms images × P files)
      (λ files. rule_command files (Run config schedule) ≡ decided)
      (λ files it p. schedule_rules files it p.0 ∙ step files p.1) read.holds
      (both shelf.held (λ files. AreImages files cfg.vms images) P (λ files. AreImages files cfg.vms images × P files) (λ files come p. (come, p)) read.told told)

  long_schedule : (content : Option (List ℕ)) → IsSomeAnd content (λ bytes. schedule_limit < length bytes)
      → rule_schedule cfg images content ≡ Refused (status.TooLong file.Schedule schedule_limit)
  long_schedule None h = absurd h
  long_schedule (Some bytes) h =
      let more : nat_lt schedule_limit (length bytes) ≡ true = grind (arith, nat_tests) in rw more refl

  pub schedule_refused : (blamed : FileId)
      → blamed ≡ unwrap_or (first_named schedule (files_of (Run config schedule) cfg)) file.Schedule
      → (decided : Status)
      → IsFetch shelf (record { file = file.Schedule; blamed = blamed; name = schedule; limit = schedule_limit }) (Err decided)
      → IsRefused from_start (Run config schedule) decided
  schedule_refused blamed at status.Done h = absurd h
  schedule_refused blamed at status.Usage h = absurd h
  schedule_refused blamed at (status.ReadFault id) h =
      let first = schedule_told config schedule cfg blamed at ∙ ap Some (sym h.0) in
      record {
        name = schedule;
        failed = (h.1.0 ∙ ap risen read.same_faults, h.1.1);
        cfg = cfg;
        first = first;
        told = both shelf.held (λ files. HoldsConfig files config cfg) (λ files. AreImages files cfg.vms images)
            (λ files. rule_command (lacking schedule files) (Run config schedule) ≡ Missing id)
            (λ files it come. missed_first shelf config schedule cfg read.holds read.packable files it schedule images come
            (at_schedule files schedule schedule cfg.vms images read.count (same_itself schedule)) id first) read.holds read.told;
      }
  schedule_refused blamed at (status.TooLong id limit) h =
      let P : Files → Type 0 = λ files. IsSomeAnd (files schedule) (λ bytes. schedule_limit < length bytes) in (
        by_schedule P (Refused (status.TooLong id limit))
            h.0
            (λ files long. long_schedule (files schedule) long
            ∙ ap (λ id. Refused (status.TooLong id schedule_limit)) (sym h.1) ∙ ap (λ limit. Refused (status.TooLong id limit)) (sym h.2)),
        h.3 ∙ read.same_faults,
      )
  schedule_refused blamed at status.BadToml h = absurd h
  schedule_refused blamed at (status.IllConfig why) h = absurd h
  schedule_refused blamed at (status.TooMany core runs entries) h = absurd h
  schedule_refused blamed at (status.BadSchedule line rule) h = absurd h
  schedule_refused blamed at status.WriteFault h = absurd h
  schedule_refused blamed at status.OutOfMemory h = h ∙ read.same_faults

  -- the bytes of the schedule have come
  module _ (bytes : List ℕ) (content : IfTold shelf.held schedule (λ content. content ≡ Some bytes)) (short : length bytes ≤ schedule_limit)
      (faultless : IsFaultless shelf) where
    by_bytes : (decided : Ruling) → rule_events cfg images (schedule_of cfg bytes) ≡ decided → IsRuledBy from_start (Run config schedule) decided
    by_bytes decided is = (
      by_schedule (λ files. files schedule ≡ Some bytes) decided content
          (λ files held.
          let few : nat_lt schedule_limit (length bytes) ≡ false = grind (arith, nat_tests) in rw (held, few) is),
      faultless ∙ read.same_faults,
    )

    pub events_refused : (fault : ScheduleError) → TellsBroken (schedule_of cfg bytes) fault
        → IsRefused from_start (Run config schedule) (schedule_status fault)
    events_refused (schedule_error.Bad line rule) h =
        (tt, by_bytes (Refused (status.BadSchedule line rule)) (ap (rule_events cfg images) h))
    events_refused schedule_error.OutOfMemory h = faultless ∙ read.same_faults

    pub accepts : (events : List Event) → schedule_of cfg bytes ≡ Events events
        → IsRuledBy from_start (Run config schedule) (Accept (record { cfg = cfg; images = images; events = map flat_event events }))
    accepts events is =
        by_bytes (Accept (record { cfg = cfg; images = images; events = map flat_event events })) (ap (rule_events cfg images) is)
