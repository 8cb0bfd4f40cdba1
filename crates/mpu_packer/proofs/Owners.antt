-- What ties the code's lists to the classes of a core.
use Rattle.std.proofs.Common.{◌≡◌, ℕ, suc, ◌+◌, ◌%◌, ◌<◌, Bool, true, false, cond, List, [], ◌∷◌, map, find, get_or, length, slice_get, Option, None, Some, option_map, if◌then◌else◌, refl, sym, subst, ap, ◌∙◌}
use Rattle.std.proofs.lemmas.Option.{slice_get-get_or, slice_get-map, slice_get_read}
use Rattle.bao_types.specs.declared.access.Class.TheVariants.{Hyp}
use Rattle.bao_types.specs.declared.range.ByteRange.{ByteRange}
use Rattle.bao_types.specs.ByteRange.{is_within}
use Rattle.bao_config.specs.declared.config.Config.{Config}
use Rattle.bao_config.specs.declared.config.Vm.{Vm}
use Rattle.bao_config.specs.Config.{config_data}
use Rattle.bao_config.specs.Data.{ConfigData, VmData, vm_data}
use Rattle.bao_config.specs.Fits.{ConfigFits}
use Rattle.bao_wellformed.specs.Map.{class_of, grant, guest_class, has_core, owner}
use Rattle.bao_wellformed.proofs.Bytes.{within_granule}
use Rattle.bao_wellformed.proofs.Places.{maps_granular}
use Rattle.region_list.specs.Ranges.{RangesData, class_of_byte, IsLaidOver}

-- an element that was read from the list of VMs is the VM at its place
pub vm_at : (cfg : ConfigData) (config : Config) (vms : List Vm) (i : ℕ) (vm : Vm) → config_data config ≡ cfg → vms ≡ config.vms.items
    → i < length vms → vm ≡ get_or vms i vm → slice_get cfg.vms i ≡ Some (vm_data vm)
vm_at cfg config vms i vm same from low is =
    ap (λ (cfg : ConfigData). slice_get cfg.vms i) (sym same) ∙ ap (λ (vms : List Vm). slice_get (map vm_data vms) i) (sym from)
    ∙ slice_get-map vm_data vms i ∙ ap (option_map vm_data) (slice_get_read vms (length vms) i vm refl low is)

-- with the hypervisor's range over the VM's map each byte has the class that the core gives it
pub laid_is : (cfg : ConfigData) (core : ℕ) (old new : RangesData) (hyp : ByteRange) → IsLaidOver old new hyp Hyp → hyp ≡ cfg.hyp
    → ((at : ℕ) → class_of_byte old at ≡ guest_class cfg (owner cfg core) at) → (at : ℕ) → class_of_byte new at ≡ class_of cfg core at
laid_is cfg core old new hyp laid same guest at = by_test (is_within hyp at) refl
    ∙ ap (λ (range : ByteRange). if is_within range at then Hyp else guest_class cfg (owner cfg core) at) same
  where
    by_test : (b : Bool) → is_within hyp at ≡ b → class_of_byte new at ≡ (if is_within hyp at then Hyp else guest_class cfg (owner cfg core) at)
    by_test true e = rw e (laid.inside at e)
    by_test false e = rw e (laid.outside at e ∙ guest at)

-- the first that passes stands at a place
pub found_got : {A : Type 0} (p : A → Bool) (xs : List A) (x : A) → find p xs ≡ Some x → (place : ℕ) × (slice_get xs place ≡ Some x)
found_got p [] x e = cc
found_got {A} p (y ∷ ys) x e = by_test (p y) e (found_got p ys x)
  where
    by_test : (b : Bool) → cond b (Some y) (find p ys) ≡ Some x → (find p ys ≡ Some x → (place : ℕ) × (slice_get ys place ≡ Some x))
        → (place : ℕ) × (slice_get (y ∷ ys) place ≡ Some x)
    by_test true e rest = (0, e)
    by_test false e rest = let r = rest e in (suc r.0, r.1)

-- the class of a byte is that of its granule
pub class_granular : (cfg : ConfigData) (core : ℕ) → ConfigFits cfg → (at k : ℕ) → at % 64 ≡ 0 → k < 64 → class_of cfg core (at + k) ≡ class_of cfg core at
class_granular cfg core fits at k aligned low =
    ap (λ b. if b then Hyp else guest_class cfg (owner cfg core) (at + k))
    (within_granule cfg.hyp.base cfg.hyp.size at k fits.hyp.base.multiple fits.hyp.size.multiple aligned low)
    ∙ ap (λ c. if is_within cfg.hyp at then Hyp else c) (of_guest (owner cfg core) refl)
  where
    of_guest : (o : Option VmData) → owner cfg core ≡ o → guest_class cfg o (at + k) ≡ guest_class cfg o at
    of_guest None e = refl
    of_guest (Some vm) e =
        let place = found_got (has_core core) cfg.vms vm e in ap grant (maps_granular cfg place.0 vm at k fits place.1 aligned low)

-- the number of entries that was read is the core's
pub entries_of_core : (cfg : ConfigData) (config : Config) (cores : List ℕ) (core : ℕ) → config_data config ≡ cfg → cores ≡ config.platform.cores.items
    → core < length cfg.platform.cores → slice_get cfg.platform.cores core ≡ Some (get_or cores core 0)
entries_of_core cfg config cores core same from low =
    let whole : cfg.platform.cores ≡ cores = sym (from ∙ ap (λ (cfg : ConfigData). cfg.platform.cores) same) in
    ap (λ (cores : List ℕ). slice_get cores core) whole ∙ slice_get-get_or cores core 0 (subst (λ (cores : List ℕ). core < length cores) whole low)
