-- The bytes of an image are in use, and one more image is loaded over the later ones.
use Rattle.std.proofs.Common.{◌≡◌, ℕ, zero, suc, ◌<◌, ◌≤◌, false, List, [], ◌∷◌, drop, length, map, get_or, slice_get, Some, refl, sym, subst, ap, ◌∙◌, arith}
use Rattle.std.specs.Prelude.{IsTrue}
use Rattle.std.proofs.lemmas.List.{length-map}
use Rattle.std.proofs.lemmas.Option.{slice_get_read}
use Rattle.bao_types.proofs.Ranges.{is_within-between}
use Rattle.bao_types.specs.Shape.{ShapeData}
use Rattle.bao_config.specs.declared.config.Config.{Config}
use Rattle.bao_config.specs.declared.config.Vm.{Vm}
use Rattle.bao_config.specs.Config.{config_data}
use Rattle.bao_config.specs.Data.{ConfigData, VmData, vm_data}
use Rattle.bao_wellformed.specs.declared.map.Kind.{Kind}
use Rattle.bao_wellformed.specs.declared.map.Kind.TheVariants.{Ram, Port, Window, Hole}
use Rattle.bao_wellformed.specs.ByteRules.{is_ram}
use Rattle.bao_wellformed.specs.Laws.{IsVm}
use Rattle.bao_wellformed.specs.Map.{kind_at}
use Rattle.bao_wellformed.specs.WellFormed.{IsWellFormed}
use Rattle.bao_wellformed.proofs.Empty.{map_got}
use Rattle.bao_wellformed.proofs.Places.{places_own}
use Rattle.board.specs.Machine.{AreUsed, Machine, is_used, over}
use Rattle.vm_model.specs.Boot.{boot_bytes}
use Rattle.mpu_packer.proofs.Owners.{vm_at}
use Rattle.vm_model.specs.Apart.{FitRooms}
use Rattle.hypervisor.specs.Shape.{shape_of}
use Rattle.vm_create.proofs.Backed.{IsBackedAs, backed}

pub image_used : (cfg : ConfigData) (events v count : ℕ) (vm : VmData) → IsWellFormed cfg → IsVm cfg v vm → count ≤ vm.place.size
    → AreUsed (shape_of cfg events) vm.place.base count
image_used cfg events v count vm well_formed is room at from below =
    by_kind (kind_at cfg vm at) (backed cfg events at v vm is)
    (places_own cfg v vm at well_formed is (is_within-between vm.place at from (omega (arith, room, below))))
  where
    by_kind : (kind : Kind) → IsBackedAs cfg events at kind → IsTrue (is_ram false kind) → IsTrue (is_used (shape_of cfg events) at)
    by_kind (Ram write exec) back ram = back
    by_kind (Port id) back ram = cc
    by_kind (Window shmem write) back ram = back
    by_kind Hole back ram = cc

pub boot_bytes_more : (vms : List VmData) (images : List (List ℕ)) (v : ℕ) (vm : VmData) (image : List ℕ) → slice_get vms v ≡ Some vm
    → slice_get images v ≡ Some image
    → boot_bytes (drop v vms) (drop v images) ≡ over vm.place.base image (boot_bytes (drop (suc v) vms) (drop (suc v) images))
boot_bytes_more [] images v vm image is got = cc
boot_bytes_more (w ∷ vms) [] v vm image is got = cc
boot_bytes_more (w ∷ vms) (i ∷ images) zero vm image is got =
    let same : w ≡ vm = cc in let same_image : i ≡ image = cc in
    ap (λ (w : VmData). over w.place.base i (boot_bytes vms images)) same ∙ ap (λ i. over vm.place.base i (boot_bytes vms images)) same_image
boot_bytes_more (w ∷ vms) (i ∷ images) (suc v) vm image is got = boot_bytes_more vms images v vm image is got

-- past the last image nothing is loaded
pub boot_bytes_none : (vms : List VmData) (n : ℕ) (images : List (List ℕ)) → n ≡ length images → boot_bytes (drop n vms) (drop n images) ≡ (λ at. 0)
boot_bytes_none [] n images same = from_none n images
  where
    from_none : (n : ℕ) (images : List (List ℕ)) → boot_bytes (drop n []) (drop n images) ≡ (λ at. 0)
    from_none zero images = refl
    from_none (suc n) images = refl
boot_bytes_none (vm ∷ vms) zero [] same = refl
boot_bytes_none (vm ∷ vms) zero (i ∷ images) same = absurd (omega arith)
boot_bytes_none (vm ∷ vms) (suc n) [] same = absurd (omega arith)
boot_bytes_none (vm ∷ vms) (suc n) (i ∷ images) same = boot_bytes_none vms n images (omega arith)

-- a turn's VM is that of the configuration, and its image that of the list
module _ {V : Type 0} (items : V → List ℕ) (cfg : ConfigData) (config : Config) (vms : List Vm) (images : List V) (same : config_data config ≡ cfg)
    (from : vms ≡ config.vms.items) (rooms : FitRooms cfg (map items images)) where
  pub turn_vm : (v : ℕ) (vm : Vm) → v < length images → vm ≡ get_or vms v vm → slice_get cfg.vms v ≡ Some (vm_data vm)
  turn_vm v vm low is =
      let long : length vms ≡ length cfg.vms =
      ap length from ∙ sym (length-map config.vms.items vm_data) ∙ ap (λ (cfg : ConfigData). length cfg.vms) same in
      vm_at cfg config vms v vm same from (omega (arith, low, long, rooms.count, length-map images items)) is

  pub turn_image : (v : ℕ) (image : V) → v < length images → image ≡ get_or images v image → slice_get (map items images) v ≡ Some (items image)
  turn_image v image low is = map_got items images v image (slice_get_read images (length images) v image refl low is)

  pub turn_used : (events v : ℕ) (vm : Vm) (image : V) → IsWellFormed cfg → v < length images → vm ≡ get_or vms v vm → image ≡ get_or images v image
      → AreUsed (shape_of cfg events) vm.place.base (length (items image))
  turn_used events v vm image well_formed low is is_image =
      let got = turn_vm v vm low is in
      image_used cfg events v (length (items image)) (vm_data vm) well_formed got
      (rooms.each v (vm_data vm) (items image) got (turn_image v image low is_image))

  pub turn_bytes : (v w : ℕ) (vm : Vm) (image : V) → w ≡ suc v → v < length images → vm ≡ get_or vms v vm → image ≡ get_or images v image
      → over vm.place.base (items image) (boot_bytes (drop w cfg.vms) (drop w (map items images)))
      ≡ boot_bytes (drop v cfg.vms) (drop v (map items images))
  turn_bytes v w vm image next low is is_image =
      ap (λ w. over vm.place.base (items image) (boot_bytes (drop w cfg.vms) (drop w (map items images)))) next
      ∙ sym (boot_bytes_more cfg.vms (map items images) v (vm_data vm) (items image) (turn_vm v vm low is) (turn_image v image low is_image))

-- a board with other bytes
abbrev pub with_bytes : Machine → (ℕ → ℕ) → Machine
with_bytes m bytes = record m { bytes = bytes }

pub are_used : (one other : ShapeData) (base at n count : ℕ) → one ≡ other → base ≡ at → n ≡ count → AreUsed other at count → AreUsed one base n
are_used one other base at n count same place long used =
    subst (λ shape. AreUsed shape base n) (sym same)
    (subst (λ from. AreUsed other from n) (sym place) (subst (λ n. AreUsed other at n) (sym long) used))
