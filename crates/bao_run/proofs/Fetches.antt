-- What fetching the images one after the other gives.
use Rattle.std.proofs.Common.{◌≡◌, ℕ, zero, suc, ◌+◌, ◌<◌, ◌≤◌, Bool, true, false, List, [], ◌∷◌, ◌++◌, length, find, cond, Option, None, Some, slice_get, refl, sym, subst, ap, ◌∙◌, arith}
use Rattle.std.specs.Prelude.{Err, IsSomeAnd, nat_lt, is_some, unwrap_or, ⊤}
use Rattle.std.specs.List.{position_from}
use Rattle.std.specs.Option.{option_map}
use Rattle.std.specs.Str.{bytes_eq}
use Rattle.std.proofs.lemmas.Bool.Decides.{nat_tests}
use Rattle.std.proofs.lemmas.Option.{slice_get-map}
use Rattle.bao_config.specs.Data.{ConfigData, VmData}
use Rattle.outside.specs.Faults.{risen}
use Rattle.outside.specs.Shelf.{Blame, Files, IfHeld}
use Rattle.report.specs.declared.status.FileId.{FileId}
use Rattle.report.specs.declared.status.FileId.TheVariants as file
use Rattle.report.specs.declared.status.Status.{Status}
use Rattle.report.specs.declared.status.Status.TheVariants as status
use Rattle.vm_model.specs.Apart.{FitRooms}
use Rattle.bao_run.specs.Words.{Run}
use Rattle.bao_run.specs.Ruling.{Ruling, Refused, image_limit, rule_image, rule_images}
use Rattle.bao_run.specs.Input.{IsFetch, Named, files_of, first_named, image_names}
use Rattle.bao_run.specs.Reading.{AreImages, HasCome, IsImagesAnswer}
use Rattle.bao_run.proofs.Rules.{same_itself}

-- images of the first VMs that fit their rooms
abbrev pub InRooms : List VmData → List (List ℕ) → Type 0
InRooms vms [] = ⊤
InRooms [] (image ∷ images) = ⊥
InRooms (vm ∷ vms) (image ∷ images) = (length image ≤ vm.place.size) × InRooms vms images

pub rooms_more : (vms : List VmData) (images : List (List ℕ)) (vm : VmData) (image : List ℕ) → InRooms vms images
    → slice_get vms (length images) ≡ Some vm → length image ≤ vm.place.size → InRooms vms (images ++ image ∷ [])
rooms_more [] [] vm image rooms is fits = cc
rooms_more (first ∷ vms) [] vm image rooms is fits =
    let same : first ≡ vm = cc in (subst (λ v. length image ≤ v.place.size) (sym same) fits, tt)
rooms_more [] (other ∷ images) vm image rooms is fits = absurd rooms
rooms_more (first ∷ vms) (other ∷ images) vm image (fit, rooms) is fits = (fit, rooms_more vms images vm image rooms is fits)

room_at : (vms : List VmData) (images : List (List ℕ)) → InRooms vms images → (v : ℕ) (vm : VmData) (image : List ℕ)
    → slice_get vms v ≡ Some vm → slice_get images v ≡ Some image → length image ≤ vm.place.size
room_at vms [] rooms v vm image is got = cc
room_at [] (other ∷ images) rooms v vm image is got = absurd rooms
room_at (first ∷ vms) (other ∷ images) (fit, rooms) zero vm image is got =
    let same : first ≡ vm = cc in let it : other ≡ image = cc in
    subst (λ v. length image ≤ v.place.size) same (subst (λ i. length i ≤ first.place.size) it fit)
room_at (first ∷ vms) (other ∷ images) (fit, rooms) (suc v) vm image is got = room_at vms images rooms v vm image is got

pub rooms_fit : (cfg : ConfigData) (images : List (List ℕ)) → length images ≡ length cfg.vms → InRooms cfg.vms images → FitRooms cfg images
rooms_fit cfg images count rooms = record { count = count; each = room_at cfg.vms images rooms }

-- one image more has come
come_more : (files : Files) (vms : List VmData) (images : List (List ℕ)) (vm : VmData) (image : List ℕ) → AreImages files vms images
    → slice_get vms (length images) ≡ Some vm → files vm.image ≡ Some image → length image ≤ image_limit vm
    → AreImages files vms (images ++ image ∷ [])
come_more files [] [] vm image come is held fits = cc
come_more files (first ∷ vms) [] vm image come is held fits =
    let same : first ≡ vm = cc in subst (λ v. (files v.image ≡ Some image) × (length image ≤ image_limit v) × ⊤) (sym same) (held, fits, tt)
come_more files [] (other ∷ images) vm image come is held fits = absurd come
come_more files (first ∷ vms) (other ∷ images) vm image (got, fit, come) is held fits =
    (got, fit, come_more files vms images vm image come is held fits)

pub held_more : (held : Option Files) (vms : List VmData) (images : List (List ℕ)) (vm : VmData) (image : List ℕ)
    → IfHeld held (λ files. AreImages files vms images) → slice_get vms (length images) ≡ Some vm
    → IfHeld held (λ files. files vm.image ≡ Some image) → length image ≤ image_limit vm
    → IfHeld held (λ files. AreImages files vms (images ++ image ∷ []))
held_more None vms images vm image come is held fits = tt
held_more (Some files) vms images vm image come is held fits = come_more files vms images vm image come is held fits

-- the first file of a name, by the place of the VM whose image it is
module _ (name schedule : List ℕ) where
  abbrev pub names : ℕ → List VmData → List Named
  names v vms = image_names v vms ++ (file.Schedule, schedule) ∷ []

  abbrev pub at_place : Option ℕ → FileId
  at_place None = file.Schedule
  at_place (Some v) = file.Image v

  of_schedule : (b : Bool) → unwrap_or (option_map (λ (f : Named). f.0) (cond b (Some (file.Schedule, schedule)) None)) file.Schedule ≡ file.Schedule
  of_schedule true = refl
  of_schedule false = refl

  first_by_place : (v : ℕ) (vms : List VmData)
      → unwrap_or (first_named name (names v vms)) file.Schedule ≡ at_place (position_from (λ vm. bytes_eq vm.image name) v vms)
  first_by_place v [] = of_schedule (bytes_eq schedule name)
  first_by_place v (vm ∷ vms) = by_test (bytes_eq vm.image name) (first_by_place (v + 1) vms)
    where
      by_test : (b : Bool) → unwrap_or (first_named name (names (v + 1) vms)) file.Schedule ≡ at_place (position_from (λ vm. bytes_eq vm.image name) (v + 1) vms)
          → unwrap_or (option_map (λ (f : Named). f.0) (cond b (Some (file.Image v, vm.image)) (find (λ named. bytes_eq named.1 name) (names (v + 1) vms)))) file.Schedule
          ≡ at_place (cond b (Some v) (position_from (λ vm. bytes_eq vm.image name) (v + 1) vms))
      by_test true rest = refl
      by_test false rest = rest

  pub first_of_images : (config : List ℕ) (cfg : ConfigData) → bytes_eq config name ≡ false
      → unwrap_or (first_named name (files_of (Run config schedule) cfg)) file.Schedule
      ≡ at_place (position_from (λ vm. bytes_eq vm.image name) 0 cfg.vms)
  first_of_images config cfg other = rw other (first_by_place 0 cfg.vms)

  pub first_is_config : (config : List ℕ) (cfg : ConfigData) → bytes_eq config name ≡ true
      → unwrap_or (first_named name (files_of (Run config schedule) cfg)) file.Schedule ≡ file.Config
  first_is_config config cfg it = rw it refl

-- a file whose name is among the names is found by it
either : (b : Bool) (one : Named) (o : Option Named) → is_some (option_map (λ (f : Named). f.0) o) ≡ true
    → is_some (option_map (λ (f : Named). f.0) (cond b (Some one) o)) ≡ true
either true one o some = refl
either false one o some = some

image_found : (schedule : List ℕ) (n v : ℕ) (vms : List VmData) (vm : VmData) → slice_get vms v ≡ Some vm
    → is_some (first_named vm.image (names vm.image schedule n vms)) ≡ true
image_found schedule n v [] vm is = cc
image_found schedule n zero (first ∷ vms) vm is =
    let it : first ≡ vm = cc in
    let test : bytes_eq first.image vm.image ≡ true = ap (λ v. bytes_eq v.image vm.image) it ∙ same_itself vm.image in rw test refl
image_found schedule n (suc v) (first ∷ vms) vm is =
    either (bytes_eq first.image vm.image) (file.Image n, first.image) (find (λ named. bytes_eq named.1 vm.image) (names vm.image schedule (n + 1) vms))
    (image_found schedule (n + 1) v vms vm is)

schedule_found : (schedule : List ℕ) (n : ℕ) (vms : List VmData) → is_some (first_named schedule (names schedule schedule n vms)) ≡ true
schedule_found schedule n [] = rw (same_itself schedule) refl
schedule_found schedule n (vm ∷ vms) =
    either (bytes_eq vm.image schedule) (file.Image n, vm.image) (find (λ named. bytes_eq named.1 schedule) (names schedule schedule (n + 1) vms))
    (schedule_found schedule (n + 1) vms)

told_of : (o : Option FileId) → is_some o ≡ true → o ≡ Some (unwrap_or o file.Schedule)
told_of None e = cc
told_of (Some f) e = refl

pub image_told : (config schedule : List ℕ) (cfg : ConfigData) (v : ℕ) (vm : VmData) (blamed : FileId) → slice_get cfg.vms v ≡ Some vm
    → blamed ≡ unwrap_or (first_named vm.image (files_of (Run config schedule) cfg)) file.Schedule
    → first_named vm.image (files_of (Run config schedule) cfg) ≡ Some blamed
image_told config schedule cfg v vm blamed is told =
    told_of (first_named vm.image (files_of (Run config schedule) cfg))
    (either (bytes_eq config vm.image) (file.Config, config) (find (λ named. bytes_eq named.1 vm.image) (names vm.image schedule 0 cfg.vms))
    (image_found schedule 0 v cfg.vms vm is))
    ∙ ap Some (sym told)

pub schedule_told : (config schedule : List ℕ) (cfg : ConfigData) (blamed : FileId)
    → blamed ≡ unwrap_or (first_named schedule (files_of (Run config schedule) cfg)) file.Schedule
    → first_named schedule (files_of (Run config schedule) cfg) ≡ Some blamed
schedule_told config schedule cfg blamed told =
    told_of (first_named schedule (files_of (Run config schedule) cfg))
    (either (bytes_eq config schedule) (file.Config, config) (find (λ named. bytes_eq named.1 schedule) (names schedule schedule 0 cfg.vms))
    (schedule_found schedule 0 cfg.vms))
    ∙ ap Some (sym told)

-- an image that is too long is where the ruling stops
long_image : (files : Files) (next : List (List ℕ) → Ruling) (v : ℕ) (vms : List VmData) (images : List (List ℕ)) (vm : VmData) (n : ℕ)
    → AreImages files vms images → slice_get vms (length images) ≡ Some vm → n ≡ v + length images
    → IsSomeAnd (files vm.image) (λ bytes. image_limit vm < length bytes)
    → rule_images files next v vms ≡ Refused (status.TooLong (file.Image n) (image_limit vm))
long_image files next v [] [] vm n come is place long = cc
long_image files next v (first ∷ vms) [] vm n come is place long =
    let it : vm ≡ first = cc in let here : v ≡ n = omega arith in
    stops first (subst (λ vm. IsSomeAnd (files vm.image) (λ bytes. image_limit vm < length bytes)) it long)
    ∙ ap (λ vm. Refused (status.TooLong (file.Image v) (image_limit vm))) (sym it)
    ∙ ap (λ n. Refused (status.TooLong (file.Image n) (image_limit vm))) here
  where
    by_content : (content : Option (List ℕ)) → IsSomeAnd content (λ bytes. image_limit first < length bytes)
        → rule_image (λ image. rule_images files (λ images. next (image ∷ images)) (v + 1) vms) v first content
        ≡ Refused (status.TooLong (file.Image v) (image_limit first))
    by_content None long = absurd long
    by_content (Some bytes) long =
        let more : nat_lt (image_limit first) (length bytes) ≡ true = grind (arith, nat_tests) in rw more refl

    stops : (vm : VmData) → IsSomeAnd (files first.image) (λ bytes. image_limit first < length bytes)
        → rule_images files next v (first ∷ vms) ≡ Refused (status.TooLong (file.Image v) (image_limit first))
    stops vm long = by_content (files first.image) long
long_image files next v [] (other ∷ images) vm n come is place long = absurd come
long_image files next v (first ∷ vms) (other ∷ images) vm n (held, fits, come) is place long =
    let few : nat_lt (image_limit first) (length other) ≡ false = grind (arith, nat_tests) in
    rw (held, few) (long_image files (λ images. next (other ∷ images)) (v + 1) vms images vm n come is (omega arith) long)

-- fetching the image of the VM after those that have come is refused
module _ (held : Option Files) (start now new : Blame) (config schedule : List ℕ) (cfg : ConfigData) (images : List (List ℕ)) (vm : VmData)
    (blamed : FileId) (same_faults : now.faults ≡ start.faults) (is : slice_get cfg.vms (length images) ≡ Some vm)
    (told : blamed ≡ unwrap_or (first_named vm.image (files_of (Run config schedule) cfg)) file.Schedule)
    (come : IfHeld held (λ files. AreImages files cfg.vms images)) where
  has_come : (o : Option Files) → IfHeld o (λ files. AreImages files cfg.vms images) → IfHeld o (λ files. HasCome files cfg vm.image)
  has_come None h = tt
  has_come (Some files) h =
      record { images = images; come = h; here = slice_get-map (λ vm. vm.image) cfg.vms (length images) ∙ ap (option_map (λ (vm : VmData). vm.image)) is }

  is_long : (o : Option Files) → IfHeld o (λ files. AreImages files cfg.vms images)
      → IfHeld o (λ files. IsSomeAnd (files vm.image) (λ bytes. image_limit vm < length bytes)) → (id : FileId) (limit : ℕ)
      → id ≡ file.Image (length images) → limit ≡ image_limit vm
      → IfHeld o (λ files. (next : List (List ℕ) → Ruling) → rule_images files next 0 cfg.vms ≡ Refused (status.TooLong id limit))
  is_long None h long id limit here most = tt
  is_long (Some files) h long id limit here most =
      λ next. long_image files next 0 cfg.vms images vm (length images) h is (omega arith) long
      ∙ ap (λ id. Refused (status.TooLong id (image_limit vm))) (sym here) ∙ ap (λ limit. Refused (status.TooLong id limit)) (sym most)

  pub image_refused : (answer : Status)
      → IsFetch (record { held = held; before = now; after = new })
      (record { file = file.Image (length images); blamed = blamed; name = vm.image; limit = image_limit vm }) (Err answer)
      → IsImagesAnswer (record { held = held; before = start; after = new }) config schedule cfg (Err answer)
  image_refused status.Done h = absurd h
  image_refused status.Usage h = absurd h
  image_refused (status.ReadFault id) h = record {
    name = vm.image;
    failed = (h.1.0 ∙ ap risen same_faults, h.1.1);
    first = image_told config schedule cfg (length images) vm blamed is told ∙ ap Some (sym h.0);
    come = has_come held come;
  }
  image_refused (status.TooLong id limit) (long, here, most, faultless) = (
    is_long held come long id limit here most,
    faultless ∙ same_faults,
  )
  image_refused status.BadToml h = absurd h
  image_refused (status.IllConfig why) h = absurd h
  image_refused (status.TooMany core runs entries) h = absurd h
  image_refused (status.BadSchedule line rule) h = absurd h
  image_refused status.WriteFault h = absurd h
  image_refused status.OutOfMemory h = h ∙ same_faults
