use Rattle.std.proofs.Common.{◌≡◌, ◌∷◌, [], ◌++◌, ◌∙◌, ◌≤◌, List, ℕ, Vec, Global, length, map, rules, sym, ap, subst, arith, slice_get, Some}
use Rattle.std.specs.Prelude.{Err, unwrap_or}
use Rattle.std.proofs.lemmas.List.{length-map, map-append}
use Rattle.outside.specs.Shelf.{Blame, IfHeld, IfTold}
use Rattle.bao_config.specs.declared.config.Vm.{Vm}
use Rattle.bao_config.specs.Data.{ConfigData, VmData, vm_data}
use Rattle.bao_wellformed.specs.Checked.{checked_data}
use Rattle.mpu_packer.proofs.Owners.{vm_at}
use Rattle.report.specs.declared.status.FileId.TheVariants as file
use Rattle.bao_run.specs.Input.{IsFetch, files_of, first_named}
use Rattle.bao_run.specs.Words.{Run}
use Rattle.bao_run.specs.Ruling.{image_limit}
use Rattle.bao_run.specs.Reading.{AreImages}
use Rattle.bao_run.proofs.Fetches.{InRooms, image_refused, rooms_fit, rooms_more, held_more}
use Rattle.bao_run.proofs.images.read_images.Goals as goal

abbrev items_of : List (Vec ℕ Global) → List (List ℕ)
items_of images = map (λ image. image.items) images

pub returns-clause-answer : goal.returns-clause-answer
returns-clause-answer g c =
    let cfg = checked_data c.args.checked.now in
    let items : length c.as_slice-vm-items.result.now ≡ length cfg.vms =
    ap (λ (vms : List Vm). length vms) c.as_slice-vm-items.ensures.value ∙ sym (length-map c.config.result.now.vms.items vm_data)
    ∙ ap (λ (cfg : ConfigData). length cfg.vms) c.config.ensures in
    let all : length c.loop-v.images.items ≡ length c.as_slice-vm-items.result.now = omega (arith, c.loop-v.invariant.count, c.loop-v-test.false, c.loop-v.auto.v-end) in
    record {
      rooms = rooms_fit cfg _ (length-map c.loop-v.images.items (λ image. image.items) ∙ all ∙ items) c.loop-v.invariant.rooms;
      told = c.loop-v.invariant.come;
      read = c.loop-v.invariant.faults;
    }

pub returns-in_err-image-clause-answer : goal.returns-in_err-image-clause-answer
returns-in_err-image-clause-answer g c =
    let cfg = checked_data c.args.checked.now in
    let images = items_of c.loop-v.images.items in
    let vm : VmData = vm_data c.vm-item.result in
    let count : length images ≡ c.loop-v.v = length-map c.loop-v.images.items (λ image. image.items) ∙ c.loop-v.invariant.count in
    let at : slice_get cfg.vms c.loop-v.v ≡ Some vm =
    vm_at cfg c.config.result.now c.as_slice-vm-items.result.now c.loop-v.v c.vm-item.result c.config.ensures c.as_slice-vm-items.ensures.value
    c.loop-v-test.true c.vm-item.is in
    let is : slice_get cfg.vms (length images) ≡ Some vm = ap (λ v. slice_get cfg.vms v) count ∙ at in
    let same : c.from_residual.result ≡ Err c.in_err-image.field-0.0 = search rules in
    let start : Blame = record { faults = g.S.Shelf.faults c.args.shelf.now; culprit = g.S.Shelf.culprit c.args.shelf.now } in
    let now : Blame = record { faults = g.S.Shelf.faults c.loop-v.shelf; culprit = g.S.Shelf.culprit c.loop-v.shelf } in
    let new : Blame = record { faults = g.S.Shelf.faults c.fetch.new.shelf; culprit = g.S.Shelf.culprit c.fetch.new.shelf } in
    let held = g.S.Shelf.held c.args.shelf.now in
    let blamed = c.first_named-blamed.result in
    let failed = c.in_err-image.field-0.0 in
    let one = subst (λ held. IsFetch (record { held = held; before = now; after = new })
    (record { file = file.Image c.loop-v.v; blamed = blamed; name = c.as_str-name.result.now; limit = c.image_limit.result }) (Err failed))
    c.loop-v.invariant.held c.in_err-image.ensures.answer in
    let two = subst (λ name. IsFetch (record { held = held; before = now; after = new })
    (record { file = file.Image c.loop-v.v; blamed = blamed; name = name; limit = c.image_limit.result }) (Err failed)) c.as_str-name.ensures one in
    let three = subst (λ limit. IsFetch (record { held = held; before = now; after = new })
    (record { file = file.Image c.loop-v.v; blamed = blamed; name = vm.image; limit = limit }) (Err failed)) c.image_limit.ensures two in
    let four = subst (λ v. IsFetch (record { held = held; before = now; after = new })
    (record { file = file.Image v; blamed = blamed; name = vm.image; limit = image_limit vm }) (Err failed)) (sym count) three in
    rw same
    (image_refused held start now new c.args.config.now c.args.schedule.now cfg images vm blamed c.loop-v.invariant.faults is
    (c.first_named-blamed.ensures
    ∙ ap (λ name. unwrap_or (first_named name (files_of (Run c.args.config.now c.args.schedule.now) cfg)) file.Schedule) c.as_str-name.ensures)
    c.loop-v.invariant.come failed four)

pub loop-v-preserved : goal.loop-v-preserved
loop-v-preserved g c =
    let cfg = checked_data c.args.checked.now in
    let images = items_of c.loop-v.images.items in
    let vm : VmData = vm_data c.vm-item.result in
    let image = c.in_ok-image.image.items in
    let count : length images ≡ c.loop-v.v = length-map c.loop-v.images.items (λ image. image.items) ∙ c.loop-v.invariant.count in
    let at : slice_get cfg.vms c.loop-v.v ≡ Some vm =
    vm_at cfg c.config.result.now c.as_slice-vm-items.result.now c.loop-v.v c.vm-item.result c.config.ensures c.as_slice-vm-items.ensures.value
    c.loop-v-test.true c.vm-item.is in
    let is : slice_get cfg.vms (length images) ≡ Some vm = ap (λ v. slice_get cfg.vms v) count ∙ at in
    let pushed : c.push.new.self.items ≡ c.loop-v.images.items ++ c.in_ok-image.image ∷ [] = search rules in
    let joined : items_of c.push.new.self.items ≡ images ++ image ∷ [] =
    ap items_of pushed ∙ map-append (λ (image : Vec ℕ Global). image.items) c.loop-v.images.items (c.in_ok-image.image ∷ []) in
    let short : length image ≤ image_limit vm = omega (arith, c.in_ok-image.ensures.answer.1, c.image_limit.ensures) in
    let fits : length image ≤ vm.place.size = omega (arith, short) in
    let content = subst (λ held. IfTold held vm.image (λ content. content ≡ Some image)) c.loop-v.invariant.held
    (subst (λ name. IfTold (g.S.Shelf.held c.loop-v.shelf) name (λ content. content ≡ Some image)) c.as_str-name.ensures c.in_ok-image.ensures.answer.0) in
    record {
      count = search rules;
      rooms = subst (InRooms cfg.vms) (sym joined) (rooms_more cfg.vms images vm image c.loop-v.invariant.rooms is fits);
      come = subst (λ (images : List (List ℕ)). IfHeld (g.S.Shelf.held c.args.shelf.now) (λ files. AreImages files cfg.vms images)) (sym joined)
          (held_more (g.S.Shelf.held c.args.shelf.now) cfg.vms images vm image c.loop-v.invariant.come is
          content short);
      held = c.in_ok-image.ensures.held ∙ c.loop-v.invariant.held;
      faults = c.in_ok-image.ensures.answer.2 ∙ c.loop-v.invariant.faults;
    }
