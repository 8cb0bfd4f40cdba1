-- What the bounds of a configuration say of its parts.
use Rattle.std.proofs.Common.{◌≡◌, ℕ, zero, suc, ◌*◌, ◌^◌, ◌<◌, ◌≤◌, ◌==◌, Bool, true, false, cond, List, [], ◌∷◌, ◌++◌, map, filter_map, find, length, get_or, slice_get, All, Option, Some, None, IfSome, option_map, refl, subst, sym, ap, ◌∙◌, arith, lit≤}
use Rattle.std.specs.List.{flat_map, cons_option}
use Rattle.std.proofs.lemmas.List.{length-map, length-append, get_or-map}
use Rattle.std.proofs.lemmas.List.Elements.{All-append, All-cons, All-head, All-tail, All-map, All-nil, All-weaker}
use Rattle.bao_types.specs.declared.range.ByteRange.{ByteRange}
use Rattle.bao_types.specs.ByteRange.{end}
use Rattle.bao_types.specs.Shape.{port_range}
use Rattle.bao_config.specs.declared.config.PortPlace.{PortPlace}
use Rattle.bao_config.specs.declared.config.Dev.{Dev}
use Rattle.bao_config.specs.Data.{ConfigData, IpcData, VmData}
use Rattle.bao_config.specs.Fits.{ConfigFits, IpcFits, PortFits, RangeFits, RegionFits, ShmemFits, VmFits}
use Rattle.bao_wellformed.specs.declared.claim.Claimed.{Claimed}
use Rattle.bao_wellformed.specs.declared.claim.Claimed.TheVariants.{Cores, Ports, Shmems, Irqs}
use Rattle.bao_wellformed.specs.Claims.{numbers_of}
use Rattle.bao_wellformed.specs.declared.map.Kind.TheVariants.{Port, Window}
use Rattle.bao_wellformed.specs.declared.map.MapEntry.{MapEntry}
use Rattle.bao_wellformed.specs.Map.{map_of, region_entry, dev_entry, ipc_entry, guard_entry}

-- what holds of each element as it is seen holds of one that was read
pub viewed_fits : {A B : Type 0} (Fits : B → Type 0) (view : A → B) (xs : List A) (i : ℕ) (x : A) → i < length xs → x ≡ get_or xs i x
    → All Fits (map view xs) → Fits (view x)
viewed_fits Fits view xs i x low is all =
    subst Fits (get_or-map view xs i x (view x) low ∙ ap view (sym is)) (all i (view x) (omega (arith, length-map xs view, low)))

-- eight interrupt numbers for each window
few_irqs : (ipcs : List IpcData) → All IpcFits ipcs → length (flat_map (λ ipc. ipc.irqs) ipcs) ≤ 8 * length ipcs
few_irqs [] all = omega arith
few_irqs (ipc ∷ ipcs) all =
    let one : length ipc.irqs ≤ 8 = (All-head IpcFits ipc ipcs all).irqs.short_enough in
    let others = few_irqs ipcs (All-tail IpcFits ipc ipcs all) in
    omega (arith, length-append ipc.irqs (flat_map (λ ipc. ipc.irqs) ipcs), one, others)

pub few_numbers : (claimed : Claimed) (vm : VmData) → VmFits vm → length (numbers_of claimed vm) ≤ 256
few_numbers Cores vm fits = omega (arith, fits.cores.short_enough)
few_numbers Ports vm fits = omega (arith, length-map vm.devs (λ dev. dev.port), fits.devs.short_enough)
few_numbers Shmems vm fits = omega (arith, length-map vm.ipcs (λ ipc. ipc.shmem), fits.ipcs.short_enough)
few_numbers Irqs vm fits =
    omega (
      arith,
      length-append (map (λ dev. dev.irq) vm.devs) (flat_map (λ ipc. ipc.irqs) vm.ipcs),
      length-map vm.devs (λ dev. dev.irq),
      fits.devs.short_enough,
      few_irqs vm.ipcs fits.ipcs.each,
      fits.ipcs.short_enough,
    )

-- what is picked fits, if whatever may be picked does
pub picked_fit : {A B : Type 0} (Fits : B → Type 0) (f : A → Option B) → ((x : A) → IfSome (f x) Fits) → (xs : List A) → All Fits (filter_map f xs)
picked_fit Fits f each [] = All-nil Fits
picked_fit {A} {B} Fits f each (x ∷ xs) = one_more (f x) (each x) (picked_fit Fits f each xs)
  where
    one_more : (o : Option B) → IfSome o Fits → All Fits (filter_map f xs) → All Fits (cons_option o (filter_map f xs))
    one_more None fit rest = rest
    one_more (Some y) fit rest = All-cons Fits y (filter_map f xs) fit rest

-- the first that passes is one of them
pub found_fits : {A : Type 0} (Fits : A → Type 0) (p : A → Bool) (xs : List A) → All Fits xs → IfSome (find p xs) Fits
found_fits Fits p [] all = tt
found_fits {A} Fits p (x ∷ xs) all = by_test (p x) (found_fits Fits p xs (All-tail Fits x xs all))
  where
    by_test : (b : Bool) → IfSome (find p xs) Fits → IfSome (cond b (Some x) (find p xs)) Fits
    by_test true rest = All-head Fits x xs all
    by_test false rest = rest

pub got_fits : {A : Type 0} (Fits : A → Type 0) (xs : List A) (i : ℕ) → All Fits xs → IfSome (slice_get xs i) Fits
got_fits Fits [] i all = tt
got_fits Fits (x ∷ xs) zero all = All-head Fits x xs all
got_fits Fits (x ∷ xs) (suc i) all = got_fits Fits xs i (All-tail Fits x xs all)

pub made_fits : {A B : Type 0} (Fits : A → Type 0) (Made : B → Type 0) (f : A → B) → ((x : A) → Fits x → Made (f x)) → (o : Option A) → IfSome o Fits → IfSome (option_map f o) Made
made_fits Fits Made f each None fit = tt
made_fits Fits Made f each (Some x) fit = each x fit

-- what holds of the ranges of regions, ports, shared memories and guards holds of those of the map
pub map_all : (P : ByteRange → Type 0) (cfg : ConfigData) (vm : VmData) → All (λ region. P region.range) vm.regions
    → All (λ port. P (port_range port.base)) cfg.platform.ports → All (λ shmem. P shmem.range) cfg.shmems → All P vm.guards
    → All (λ entry. P entry.range) (map_of cfg vm)
map_all P cfg vm regions ports shmems guards =
    All-append (λ (entry : MapEntry). P entry.range) (map region_entry vm.regions ++ filter_map (dev_entry cfg) vm.devs ++ filter_map (ipc_entry cfg) vm.ipcs) (map guard_entry vm.guards)
    (All-append (λ (entry : MapEntry). P entry.range) (map region_entry vm.regions ++ filter_map (dev_entry cfg) vm.devs) (filter_map (ipc_entry cfg) vm.ipcs)
    (All-append (λ (entry : MapEntry). P entry.range) (map region_entry vm.regions) (filter_map (dev_entry cfg) vm.devs)
    (All-map (λ (entry : MapEntry). P entry.range) region_entry vm.regions regions)
    (picked_fit (λ (entry : MapEntry). P entry.range) (dev_entry cfg) of_dev vm.devs))
    (picked_fit (λ (entry : MapEntry). P entry.range) (ipc_entry cfg) of_ipc vm.ipcs))
    (All-map (λ (entry : MapEntry). P entry.range) guard_entry vm.guards guards)
  where
    of_dev : (dev : Dev) → IfSome (dev_entry cfg dev) (λ (entry : MapEntry). P entry.range)
    of_dev dev =
        made_fits (λ port. P (port_range port.base)) (λ (entry : MapEntry). P entry.range) (λ port. record { range = port_range port.base; kind = Port dev.port }) (λ port good. good)
        (find (λ port. port.id == dev.port) cfg.platform.ports)
        (found_fits (λ port. P (port_range port.base)) (λ port. port.id == dev.port) cfg.platform.ports ports)

    of_ipc : (ipc : IpcData) → IfSome (ipc_entry cfg ipc) (λ (entry : MapEntry). P entry.range)
    of_ipc ipc =
        made_fits (λ shmem. P shmem.range) (λ (entry : MapEntry). P entry.range) (λ shmem. record { range = shmem.range; kind = Window ipc.shmem ipc.write }) (λ shmem good. good)
        (slice_get cfg.shmems ipc.shmem) (got_fits (λ shmem. P shmem.range) cfg.shmems ipc.shmem shmems)

abbrev pub EntryFits : MapEntry → Type 0
EntryFits entry = RangeFits entry.range

port_fits : (port : PortPlace) → PortFits port → RangeFits (port_range port.base)
port_fits port fit = record { base = fit.base; size = record { least = lit≤ tt; most = lit≤ tt; multiple = refl } }

-- each entry of the map of a VM is a range that the key table allows
pub map_fits : (cfg : ConfigData) (vm : VmData) → ConfigFits cfg → VmFits vm → All EntryFits (map_of cfg vm)
map_fits cfg vm fits vm_fits =
    map_all RangeFits cfg vm (All-weaker RegionFits (λ region. RangeFits region.range) (λ region fit. fit.range) vm.regions vm_fits.regions.each)
    (All-weaker PortFits (λ port. RangeFits (port_range port.base)) port_fits cfg.platform.ports fits.platform.ports.each)
    (All-weaker ShmemFits (λ shmem. RangeFits shmem.range) (λ shmem fit. fit.range) cfg.shmems fits.shmems.each) vm_fits.guards.each

-- so no bound of it is beyond 64 bits
pub map_ends : (cfg : ConfigData) (vm : VmData) → ConfigFits cfg → VmFits vm → All (λ entry. end entry.range < 2 ^ 64) (map_of cfg vm)
map_ends cfg vm fits vm_fits =
    All-weaker EntryFits (λ entry. end entry.range < 2 ^ 64) (λ entry fit. omega (arith, fit.base.most, fit.size.most)) (map_of cfg vm) (map_fits cfg vm fits vm_fits)

-- the VM at a place is one that the key table allows
pub vm_fits : (cfg : ConfigData) (v : ℕ) (vm : VmData) → ConfigFits cfg → slice_get cfg.vms v ≡ Some vm → VmFits vm
vm_fits cfg v vm fits is = let fit = got_fits VmFits cfg.vms v fits.vms.each in subst (λ o. IfSome o VmFits) is fit
