-- How the ruling goes on past what passes, and where it stops.
use Rattle.std.proofs.Common.{◌≡◌, ℕ, suc, ◌+◌, ◌<◌, ◌≤◌, Bool, true, false, List, [], ◌∷◌, ◌++◌, length, map, find, cond, drop, None, Some, slice_get, refl, sym, subst, ap, ◌∙◌, arith}
use Rattle.std.specs.Prelude.{if◌then◌else◌, nat_lt}
use Rattle.std.specs.Option.{option_map}
use Rattle.std.specs.Cmp.Lexicographic.{other_text}
use Rattle.std.specs.Str.{bytes_eq}
use Rattle.std.proofs.lemmas.Bool.Decides.{nat_tests}
use Rattle.bao_config.specs.Data.{ConfigData, VmData}
use Rattle.mpu_packer.specs.Runs.{core_runs}
use Rattle.report.specs.declared.status.FileId.{FileId}
use Rattle.report.specs.declared.status.FileId.TheVariants as file
use Rattle.report.specs.declared.status.Status.TheVariants as status
use Rattle.outside.specs.Shelf.{Files}
use Rattle.bao_run.specs.Ruling.{Ruling, Refused, Missing, config_limit, image_limit, rule_config, rule_packing, rule_image, rule_images}
use Rattle.bao_run.specs.Input.{Named, image_names, first_named, lacking}
use Rattle.bao_run.specs.Reading.{HoldsConfig, AreImages}

-- a text that spells a well-formed configuration
pub config_passes : (files : Files) (config : List ℕ) (cfg : ConfigData) → HoldsConfig files config cfg → (next : ConfigData → Ruling)
    → rule_config next (files config) ≡ next cfg
config_passes files config cfg holds next =
    let few : nat_lt config_limit (length holds.text) ≡ false = grind (arith, nat_tests, holds.short) in
    rw (holds.held, few, holds.spells, holds.well_formed) refl

-- a core whose runs fit into its entries
pub core_passes : (next : Ruling) (cfg : ConfigData) (core most : ℕ) (others : List ℕ) → length (core_runs cfg core) ≤ most
    → rule_packing next cfg core (most ∷ others) ≡ rule_packing next cfg (core + 1) others
core_passes next cfg core most others fits =
    let few : nat_lt most (length (core_runs cfg core)) ≡ false = grind (arith, nat_tests) in rw few refl

-- a core that has more
pub core_stops : (next : Ruling) (cfg : ConfigData) (core most runs : ℕ) (others : List ℕ) → runs ≡ length (core_runs cfg core)
    → most < runs → rule_packing next cfg core (most ∷ others) ≡ Refused (status.TooMany core runs most)
core_stops next cfg core most runs others counted many =
    let more : nat_lt most (length (core_runs cfg core)) ≡ true = grind (arith, nat_tests, counted) in
    rw more (ap (λ n. Refused (status.TooMany core n most)) (sym counted))

-- images that are there and fit
pub images_pass : (files : Files) (next : List (List ℕ) → Ruling) (v : ℕ) (vms : List VmData) (images : List (List ℕ))
    → AreImages files vms images
    → rule_images files next v vms ≡ rule_images files (λ others. next (images ++ others)) (v + length images) (drop (length images) vms)
images_pass files next v vms [] come = let here : v + 0 ≡ v = omega arith in rw here refl
images_pass files next v [] (image ∷ images) come = absurd come
images_pass files next v (vm ∷ vms) (image ∷ images) (held, fits, rest) =
    let few : nat_lt (image_limit vm) (length image) ≡ false = grind (arith, nat_tests) in
    let place : v + 1 + length images ≡ v + suc (length images) = omega arith in
    rw (held, few)
    (images_pass files (λ others. next (image ∷ others)) (v + 1) vms images rest
    ∙ ap (λ n. rule_images files (λ others. next (image ∷ (images ++ others))) n (drop (length images) vms)) place)

pub same_itself : (text : List ℕ) → bytes_eq text text ≡ true
same_itself text = by_test (bytes_eq text text) refl
  where
    by_test : (b : Bool) → b ≡ bytes_eq text text → b ≡ true
    by_test true e = refl
    by_test false e = absurd (other_text text text e refl)

-- Where a name is told as missing, the first file of that name is the one that is missed: the images before the name's file
-- are there.
module _ (files : Files) (name schedule : List ℕ) where
  -- the names of the files from an image on
  abbrev pub names : ℕ → List VmData → List Named
  names v vms = image_names v vms ++ (file.Schedule, schedule) ∷ []

  -- the file after these images has the name
  abbrev pub IsNext : List VmData → List (List ℕ) → Type 0
  IsNext [] [] = bytes_eq schedule name ≡ true
  IsNext [] (image ∷ images) = ⊥
  IsNext (vm ∷ vms) [] = bytes_eq vm.image name ≡ true
  IsNext (vm ∷ vms) (image ∷ images) = IsNext vms images

  pub is_next : (vms : List VmData) (images : List (List ℕ)) → slice_get (map (λ vm. vm.image) vms) (length images) ≡ Some name
      → IsNext vms images
  is_next [] images e = cc
  is_next (vm ∷ vms) [] e = let it : vm.image ≡ name = cc in subst (λ n. bytes_eq vm.image n ≡ true) it (same_itself vm.image)
  is_next (vm ∷ vms) (image ∷ images) e = is_next vms images e

  pub at_schedule : (vms : List VmData) (images : List (List ℕ)) → length images ≡ length vms → bytes_eq schedule name ≡ true → IsNext vms images
  at_schedule [] [] e is = is
  at_schedule [] (image ∷ images) e is = absurd (omega arith)
  at_schedule (vm ∷ vms) [] e is = absurd (omega arith)
  at_schedule (vm ∷ vms) (image ∷ images) e is = at_schedule vms images (omega arith) is

  pub missed : (next : List (List ℕ) → Ruling) → (bytes_eq schedule name ≡ true → (images : List (List ℕ)) → next images ≡ Missing file.Schedule)
      → (v : ℕ) (vms : List VmData) (images : List (List ℕ)) → AreImages files vms images → IsNext vms images
      → (first : FileId) → first_named name (names v vms) ≡ Some first
      → rule_images (lacking name files) next v vms ≡ Missing first
  missed next ends v [] [] come here first found =
      let it : file.Schedule ≡ first = found_now (bytes_eq schedule name) here found in ends here [] ∙ ap Missing it
    where
      found_now : (b : Bool) → b ≡ true → option_map (λ (f : Named). f.0) (cond b (Some (file.Schedule, schedule)) None) ≡ Some first → file.Schedule ≡ first
      found_now true e found = cc
      found_now false e found = cc
  missed next ends v [] (image ∷ images) come here first found = absurd come
  missed next ends v (vm ∷ vms) images come here first found =
      by_test (bytes_eq vm.image name) refl
      (λ next ends images come here found. missed next ends (v + 1) vms images come here first found) images come here found
    where
      by_test : (b : Bool) → bytes_eq vm.image name ≡ b
          → ((next : List (List ℕ) → Ruling) → (bytes_eq schedule name ≡ true → (images : List (List ℕ)) → next images ≡ Missing file.Schedule)
          → (images : List (List ℕ)) → AreImages files vms images → IsNext vms images → first_named name (names (v + 1) vms) ≡ Some first
          → rule_images (lacking name files) next (v + 1) vms ≡ Missing first)
          → (images : List (List ℕ)) → AreImages files (vm ∷ vms) images → IsNext (vm ∷ vms) images
          → option_map (λ (f : Named). f.0) (cond b (Some (file.Image v, vm.image)) (find (λ named. bytes_eq named.1 name) (names (v + 1) vms))) ≡ Some first
          → rule_image (λ image. rule_images (lacking name files) (λ images. next (image ∷ images)) (v + 1) vms) v vm (if b then None else files vm.image)
          ≡ Missing first
      by_test true is rest images come here found = cc
      by_test false isnt rest [] come here found = let clash : true ≡ false = sym here ∙ isnt in cc
      by_test false isnt rest (image ∷ images) (held, fits, others) here found =
          let few : nat_lt (image_limit vm) (length image) ≡ false = grind (arith, nat_tests) in
          rw (held, few)
          (rest (λ images. next (image ∷ images)) (λ is images. ends is (image ∷ images)) images others here found)
