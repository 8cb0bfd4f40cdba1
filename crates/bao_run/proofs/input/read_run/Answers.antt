use Rattle.std.proofs.Common.{◌≡◌, ◌∙◌, List, ℕ, Vec, Global, map, refl, rules, sym, subst, Some}
use Rattle.std.specs.Prelude.{Err}
use Rattle.outside.specs.Shelf.{Blame, IfHeld, IfTold}
use Rattle.outside.specs.Use.{shelf_use}
use Rattle.bao_wellformed.specs.Checked.{checked_data}
use Rattle.report.specs.declared.status.FileId.TheVariants as file
use Rattle.vm_create.specs.Boot.{ArePlans}
use Rattle.bao_run.specs.Input.{IsFetch}
use Rattle.schedule.specs.Answer.{TellsBroken}
use Rattle.schedule.specs.Schedule.{Events, schedule_of}
use Rattle.bao_run.specs.Ruling.{schedule_limit}
use Rattle.bao_run.specs.Reading.{HoldsConfig, IsImagesAnswer, IsPackable}
use Rattle.bao_run.proofs.Inputs.{run_config_refused, images_refused, has_read, schedule_refused, events_refused, accepts}
use Rattle.bao_run.proofs.input.read_run.Goals as goal

abbrev items_of : List (Vec ℕ Global) → List (List ℕ)
items_of images = map (λ image. image.items) images

pub returns-in_err-checked-clause-answer : goal.returns-in_err-checked-clause-answer
returns-in_err-checked-clause-answer g c =
    let same : c.from_residual.result ≡ Err c.in_err-checked.field-0.0 = search rules in
    rw same (run_config_refused _ c.args.config.now c.args.schedule.now c.in_err-checked.field-0.0 c.in_err-checked.ensures.answer)

pub returns-in_err-images-clause-answer : goal.returns-in_err-images-clause-answer
returns-in_err-images-clause-answer g c =
    let held = g.S.Shelf.held c.args.shelf.now in
    let config = c.args.config.now in
    let schedule = c.args.schedule.now in
    let cfg = checked_data c.in_ok-packed.packed.checked in
    let packed_for = c.in_ok-packed.ensures in
    let start : Blame = record { faults = g.S.Shelf.faults c.args.shelf.now; culprit = g.S.Shelf.culprit c.args.shelf.now } in
    let mid : Blame = record { faults = g.S.Shelf.faults c.read_checked.new.shelf; culprit = g.S.Shelf.culprit c.read_checked.new.shelf } in
    let new : Blame = record { faults = g.S.Shelf.faults c.read_images.new.shelf; culprit = g.S.Shelf.culprit c.read_images.new.shelf } in
    let holds : IfHeld held (λ files. HoldsConfig files config cfg) =
    subst (λ cfg. IfHeld held (λ files. HoldsConfig files config cfg)) (sym packed_for.same) c.in_ok-checked.ensures.answer.0 in
    let packable = subst IsPackable (sym packed_for.same) packed_for.packable in
    let failed = c.in_err-images.field-0.0 in
    let answer = subst (λ held. IsImagesAnswer (record { held = held; before = mid; after = new }) config schedule cfg (Err failed))
    c.read_checked.ensures.held c.in_err-images.ensures.answer in
    let same : c.from_residual-in_err-images.result ≡ Err failed = search rules in
    rw same
    (images_refused (record { held = held; before = mid; after = new }) config schedule cfg holds packable start c.in_ok-checked.ensures.answer.1 failed answer)

pub returns-in_err-lines-clause-answer : goal.returns-in_err-lines-clause-answer
returns-in_err-lines-clause-answer g c =
    let config = c.args.config.now in
    let schedule = c.args.schedule.now in
    let cfg = checked_data c.in_ok-packed.packed.checked in
    let images = items_of c.in_ok-images.images.items in
    let used = shelf_use g.S.Shelf.held g.S.Shelf.faults g.S.Shelf.culprit in
    let new : Blame = record { faults = g.S.Shelf.faults c.fetch.new.shelf; culprit = g.S.Shelf.culprit c.fetch.new.shelf } in
    let read =
    has_read _ c.in_ok-packed.packed config images (used c.args.shelf.now c.read_checked.new.shelf)
    (used c.read_checked.new.shelf c.read_images.new.shelf) new c.read_checked.ensures.held refl c.in_ok-checked.ensures.answer
    c.in_ok-packed.ensures c.in_ok-images.ensures.answer in
    let held = c.read_images.ensures.held ∙ c.read_checked.ensures.held in
    let failed = c.in_err-lines.field-0.0 in
    let answer =
    subst (λ held. IsFetch (record (used c.read_images.new.shelf c.fetch.new.shelf) { held = held })
    (record { file = file.Schedule; blamed = c.first_named-blamed.result; name = schedule; limit = schedule_limit }) (Err failed))
    held c.in_err-lines.ensures.answer in
    let same : c.from_residual-in_err-lines.result ≡ Err failed = search rules in
    rw same
    (schedule_refused config schedule cfg images _ _ read c.first_named-blamed.result c.first_named-blamed.ensures failed answer)

pub returns-in-Err-clause-answer : goal.returns-in-Err-clause-answer
returns-in-Err-clause-answer g c =
    let config = c.args.config.now in
    let schedule = c.args.schedule.now in
    let cfg = checked_data c.in_ok-packed.packed.checked in
    let images = items_of c.in_ok-images.images.items in
    let used = shelf_use g.S.Shelf.held g.S.Shelf.faults g.S.Shelf.culprit in
    let new : Blame = record { faults = g.S.Shelf.faults c.fetch.new.shelf; culprit = g.S.Shelf.culprit c.fetch.new.shelf } in
    let read =
    has_read _ c.in_ok-packed.packed config images (used c.args.shelf.now c.read_checked.new.shelf)
    (used c.read_checked.new.shelf c.read_images.new.shelf) new c.read_checked.ensures.held refl c.in_ok-checked.ensures.answer
    c.in_ok-packed.ensures c.in_ok-images.ensures.answer in
    let held = c.read_images.ensures.held ∙ c.read_checked.ensures.held in
    let lines = c.in_ok-lines.lines.items in
    let content = subst (λ held. IfTold held schedule (λ content. content ≡ Some lines)) held c.in_ok-lines.ensures.answer.0 in
    let fault = c.in-Err.fault in
    let answer = subst (λ (bytes : List ℕ). TellsBroken (schedule_of cfg bytes) fault) c.deref.ensures.value c.in-Err.ensures.answer in
    rw c.schedule_status.ensures
    (events_refused config schedule cfg images _ _ read lines content c.in_ok-lines.ensures.answer.1 c.in_ok-lines.ensures.answer.2 fault
    answer)

pub returns-in-Ok-clause-answer : goal.returns-in-Ok-clause-answer
returns-in-Ok-clause-answer g c =
    let config = c.args.config.now in
    let schedule = c.args.schedule.now in
    let cfg = checked_data c.in_ok-packed.packed.checked in
    let images = items_of c.in_ok-images.images.items in
    let used = shelf_use g.S.Shelf.held g.S.Shelf.faults g.S.Shelf.culprit in
    let new : Blame = record { faults = g.S.Shelf.faults c.fetch.new.shelf; culprit = g.S.Shelf.culprit c.fetch.new.shelf } in
    let read =
    has_read _ c.in_ok-packed.packed config images (used c.args.shelf.now c.read_checked.new.shelf)
    (used c.read_checked.new.shelf c.read_images.new.shelf) new c.read_checked.ensures.held refl c.in_ok-checked.ensures.answer
    c.in_ok-packed.ensures c.in_ok-images.ensures.answer in
    let held = c.read_images.ensures.held ∙ c.read_checked.ensures.held in
    let lines = c.in_ok-lines.lines.items in
    let content = subst (λ held. IfTold held schedule (λ content. content ≡ Some lines)) held c.in_ok-lines.ensures.answer.0 in
    let events = c.in-Ok.events.items in
    let spelled = subst (λ (bytes : List ℕ). schedule_of cfg bytes ≡ Events events) c.deref.ensures.value c.in-Ok.ensures.answer in
    record {
      told = accepts config schedule cfg images _ _ read lines content c.in_ok-lines.ensures.answer.1 c.in_ok-lines.ensures.answer.2 events
          spelled;
      spelled = (lines, spelled);
      playable = record {
        plans = subst (λ cfg. ArePlans cfg c.in_ok-packed.packed.plans.items) (sym c.in_ok-packed.ensures.same) c.in_ok-packed.ensures.plans;
        rooms = c.in_ok-images.ensures.answer.rooms;
        placed = c.in-Ok.ensures.lawful.placed;
        few = c.in-Ok.ensures.lawful.few;
      };
    }
