-- At boot both are the same to the VM.
use Rattle.std.proofs.Common.{◌≡◌, ◌≢◌, ℕ, zero, suc, ◌+◌, ◌-◌, List, [], ◌∷◌, length, refl, sym, ap, ◌∙◌, arith}
use Rattle.std.specs.Prelude.{IsTrue, IsFalse, if◌then◌else◌, Some, slice_get, slice_index, option_to_list}
use Rattle.std.proofs.lemmas.List.{length-map}
use Rattle.a64_state.specs.Registers.{reset_core}
use Rattle.bao_config.specs.Data.{ConfigData, VmData}
use Rattle.bao_types.specs.ByteRange.{is_within}
use Rattle.bao_wellformed.specs.Map.{has_core, owner}
use Rattle.board.specs.Machine.{over}
use Rattle.vm_model.specs.Guests.{boot_table}
use Rattle.vm_model.specs.Boot.{boot, boot_bytes, boot_core, boot_power}
use Rattle.vm_model.specs.Agree.{Agree}
use Rattle.vm_model.specs.Apart.{IsApart}
use Rattle.vm_model.proofs.Lists.{mapped_get_or, mapped_slice_get}
use Rattle.vm_model.proofs.Duties.{single}
use Rattle.vm_model.proofs.Own.{owned, owned_alone}

-- no image of these VMs lies over the byte, but of the one at place v
IsFree : List VmData → List (List ℕ) → (ℕ → Type 0) → ℕ → Type 0
IsFree vms images but at =
    (w : ℕ) (other : VmData) (image : List ℕ) → but w → slice_get vms w ≡ Some other → slice_get images w ≡ Some image
    → IsFalse (is_within (record { base = other.place.base; size = length image }) at)

over_free : (base : ℕ) (image : List ℕ) (old : ℕ → ℕ) (at : ℕ)
    → IsFalse (is_within (record { base = base; size = length image }) at) → over base image old at ≡ old at
over_free base image old at free = rw free refl

over_alike : (base : ℕ) (image : List ℕ) (one other : ℕ → ℕ) (at : ℕ) → one at ≡ other at
    → over base image one at ≡ over base image other at
over_alike base image one other at same =
    ap (λ rest. if is_within (record { base = base; size = length image }) at then slice_index image (at - base) else rest) same

all_free : (vms : List VmData) (images : List (List ℕ)) (at : ℕ) → IsFree vms images (λ w. Unit {0}) at → boot_bytes vms images at ≡ 0
unfolding IsFree
all_free [] images at free = refl
all_free (vm ∷ vms) [] at free = refl
all_free (vm ∷ vms) (image ∷ images) at free =
    over_free vm.place.base image (boot_bytes vms images) at (free 0 vm image tt refl refl)
    ∙ all_free vms images at (λ w other i any. free (suc w) other i tt)

boot_byte : (vms : List VmData) (images : List (List ℕ)) (v : ℕ) (vm : VmData) (at : ℕ) → slice_get vms v ≡ Some vm
    → IsFree vms images (λ w. w ≢ v) at
    → boot_bytes vms images at ≡ boot_bytes (vm ∷ []) (option_to_list (slice_get images v)) at
unfolding IsFree
boot_byte [] images v vm at place free = cc
boot_byte (x ∷ xs) [] v vm at place free = refl
boot_byte (x ∷ xs) (y ∷ ys) zero vm at place free =
    let same : x ≡ vm = cc in
    over_alike x.place.base y (boot_bytes xs ys) (λ a. 0) at
    (all_free xs ys at (λ w other image any. free (suc w) other image (λ e. absurd (omega arith))))
    ∙ ap (λ z. over z.place.base y (λ a. 0) at) same
boot_byte (x ∷ xs) (y ∷ ys) (suc v) vm at place free =
    over_free x.place.base y (boot_bytes xs ys) at (free 0 x y (λ e. absurd (omega arith)) refl refl)
    ∙ boot_byte xs ys v vm at place (λ w other image but. free (suc w) other image (λ e. but (omega arith)))

module _ (cfg : ConfigData) (images : List (List ℕ)) (v : ℕ) (vm : VmData) (apart : IsApart cfg images v vm) where
  owners : (core : ℕ) → IsTrue (has_core core vm) → owner cfg core ≡ owner (single cfg vm) core
  owners core has =
      let own = apart.cores core has in
      (owned cfg v vm apart.place core own).0 ∙ sym (owned_alone cfg v vm apart.place core own)

  -- a place that is counted from 0
  from_zero : {Y : Type 0} (one other : ℕ → Y) (core : ℕ) → one core ≡ other core → one (0 + core) ≡ other (0 + core)
  from_zero one other core same = let e : 0 + core ≡ core = omega arith in ap one e ∙ same ∙ sym (ap other e)

  pub boots_alike : Agree cfg v vm (boot cfg images) (boot (single cfg vm) (option_to_list (slice_get images v)))
  unfolding IsFree
  boots_alike = record {
    bytes = λ at in_map.
        boot_byte cfg.vms images v vm at apart.place (λ w other image but got given. apart.loads w other image at but got given in_map);
    cores = λ core has.
        mapped_get_or (λ c. boot_core (owner cfg c) c) (λ c. boot_core (owner (single cfg vm) c) c) cfg.platform.cores 0 core
        (reset_core 0)
        (from_zero (λ c. boot_core (owner cfg c) c) (λ c. boot_core (owner (single cfg vm) c) c) core
        (ap (λ o. boot_core o core) (owners core has)));
    powers = λ core has.
        mapped_slice_get (λ c. boot_power (owner cfg c) c) (λ c. boot_power (owner (single cfg vm) c) c) cfg.platform.cores 0
        core
        (from_zero (λ c. boot_power (owner cfg c) c) (λ c. boot_power (owner (single cfg vm) c) c) core
        (ap (λ o. boot_power o core) (owners core has)));
    core_count = length-map _ _ ∙ sym (length-map _ _);
    table = ap boot_table apart.place;
    ports = λ port has. refl;
    timer_lines = λ core has. refl;
    port_lines = λ port has. refl;
  }
