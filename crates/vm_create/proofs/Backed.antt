-- A byte that a map gives is memory in use, or a port's.
use Rattle.std.proofs.Common.{◌≡◌, ℕ, zero, suc, ◌-◌, ◌==◌, Bool, true, false, cond, ◌||◌, List, [], ◌∷◌, ◌++◌, map, filter_map, reverse, find, slice_get, All, Some, IfSome, refl, ap, ◌∙◌}
use Rattle.std.specs.Prelude.{IsTrue, ⊤, is_some, if◌then◌else◌}
use Rattle.std.specs.Option.{option_map}
use Rattle.std.specs.List.{flat_map, list_any}
use Rattle.std.proofs.lemmas.List.Elements.{All-append, All-head, All-tail, All-map}
use Rattle.std.proofs.lemmas.List.Folds.{list_any-append, list_any_at}
use Rattle.bao_types.specs.declared.range.ByteRange.{ByteRange}
use Rattle.bao_types.specs.declared.shape.PortSpot.{PortSpot}
use Rattle.bao_types.specs.ByteRange.{is_in_one, is_within}
use Rattle.bao_types.specs.Shape.{port_range}
use Rattle.bao_config.specs.declared.config.Dev.{Dev}
use Rattle.bao_config.specs.Data.{ConfigData, IpcData, VmData}
use Rattle.bao_wellformed.specs.declared.map.Kind.{Kind}
use Rattle.bao_wellformed.specs.declared.map.Kind.TheVariants.{Ram, Port, Window, Hole}
use Rattle.bao_wellformed.specs.declared.map.MapEntry.{MapEntry}
use Rattle.bao_wellformed.specs.Map.{dev_entry, guard_entry, ipc_entry, kind_at, kind_of, map_of, region_entry}
use Rattle.bao_wellformed.specs.Laws.{IsVm}
use Rattle.bao_wellformed.proofs.Bytes.{all_reversed}
use Rattle.bao_wellformed.proofs.Fits.{found_fits, got_fits, made_fits, picked_fit}
use Rattle.board.specs.Ports.{PortByte, is_port}
use Rattle.board.specs.Machine.{is_used, port_places}
use Rattle.hypervisor.specs.Shape.{port_spot, shape_of}

-- what a byte of this kind is on the board
abbrev pub IsBackedAs : ConfigData → ℕ → ℕ → Kind → Type 0
IsBackedAs cfg events at (Ram write exec) = IsTrue (is_used (shape_of cfg events) at)
IsBackedAs cfg events at (Port id) = IsTrue (is_port (port_places (shape_of cfg events).ports) at)
IsBackedAs cfg events at (Window shmem write) = IsTrue (is_used (shape_of cfg events) at)
IsBackedAs cfg events at Hole = ⊤

any_left : {A : Type 0} (p : A → Bool) (xs ys : List A) → list_any p xs ≡ true → list_any p (xs ++ ys) ≡ true
any_left p xs ys e = list_any-append p xs ys ∙ ap (λ b. b || list_any p ys) e

any_right : {A : Type 0} (p : A → Bool) (xs ys : List A) → list_any p ys ≡ true → list_any p (xs ++ ys) ≡ true
any_right p xs ys e = list_any-append p xs ys ∙ ap (λ b. list_any p xs || b) e ∙ always (list_any p xs)
  where
    always : (b : Bool) → (b || true) ≡ true
    always true = refl
    always false = refl

any_mapped : {A B : Type 0} (p : B → Bool) (f : A → B) (xs : List A) → list_any p (map f xs) ≡ list_any (λ x. p (f x)) xs
any_mapped p f [] = refl
any_mapped p f (x ∷ xs) = ap (λ b. p (f x) || b) (any_mapped p f xs)

any_flat : {A B : Type 0} (p : B → Bool) (f : A → List B) (xs : List A) (v : ℕ) (x : A) → slice_get xs v ≡ Some x → list_any p (f x) ≡ true
    → list_any p (flat_map f xs) ≡ true
any_flat p f [] v x got e = cc
any_flat p f (y ∷ ys) zero x got e =
    let same : y ≡ x = cc in any_left p (f y) (flat_map f ys) (ap (λ z. list_any p (f z)) same ∙ e)
any_flat p f (y ∷ ys) (suc v) x got e = any_right p (f y) (flat_map f ys) (any_flat p f ys v x got e)

-- a port that has a byte is found where one has it
found_if_any : (ports : List PortSpot) (at : ℕ) → is_port (port_places ports) at ≡ is_in_one (λ port. port_range port.base) ports at
found_if_any [] at = refl
found_if_any (port ∷ ports) at = by_test (is_within (port_range port.base) at) (found_if_any ports at)
  where
    by_test : (here : Bool) → is_port (port_places ports) at ≡ is_in_one (λ port. port_range port.base) ports at
        → is_some (option_map {U = PortByte} (λ (found : PortSpot). record { port = found.id; offset = at - found.base })
        (if here then Some port else find (λ other. is_within (port_range other.base) at) ports))
        ≡ (here || is_in_one (λ port. port_range port.base) ports at)
    by_test true rest = refl
    by_test false rest = rest

-- a byte of one of these is a byte of them
among : {A : Type 0} (range_of : A → ByteRange) (xs : List A) (at : ℕ)
    → All (λ x. is_within (range_of x) at ≡ true → is_in_one range_of xs at ≡ true) xs
among range_of xs at k d low inside = list_any_at (λ x. is_within (range_of x) at) xs k d low inside

module _ (cfg : ConfigData) (events at : ℕ) where
  abbrev Backs : MapEntry → Type 0
  Backs entry = is_within entry.range at ≡ true → IsBackedAs cfg events at entry.kind

  abbrev ranges_of : VmData → List ByteRange
  ranges_of vm = map (λ region. region.range) vm.regions

  used_by_region : (v : ℕ) (vm : VmData) → IsVm cfg v vm → is_in_one (λ region. region.range) vm.regions at ≡ true
      → is_used (shape_of cfg events) at ≡ true
  used_by_region v vm is inside =
      any_left (λ range. is_within range at) (flat_map ranges_of cfg.vms) (map (λ shmem. shmem.range) cfg.shmems)
      (any_flat (λ range. is_within range at) ranges_of cfg.vms v vm is
      (any_mapped (λ range. is_within range at) (λ region. region.range) vm.regions ∙ inside))

  used_by_shmem : is_in_one (λ shmem. shmem.range) cfg.shmems at ≡ true → is_used (shape_of cfg events) at ≡ true
  used_by_shmem inside =
      any_right (λ range. is_within range at) (flat_map ranges_of cfg.vms) (map (λ shmem. shmem.range) cfg.shmems)
      (any_mapped (λ range. is_within range at) (λ shmem. shmem.range) cfg.shmems ∙ inside)

  port_of_platform : is_in_one (λ port. port_range port.base) cfg.platform.ports at ≡ true
      → is_port (port_places (shape_of cfg events).ports) at ≡ true
  port_of_platform inside =
      found_if_any (map (port_spot cfg) cfg.platform.ports) at
      ∙ any_mapped (λ port. is_within (port_range port.base) at) (port_spot cfg) cfg.platform.ports ∙ inside

  dev_backs : (dev : Dev) → IfSome (dev_entry cfg dev) Backs
  dev_backs dev =
      made_fits (λ port. is_within (port_range port.base) at ≡ true → is_in_one (λ port. port_range port.base) cfg.platform.ports at ≡ true) Backs
      (λ port. record { range = port_range port.base; kind = Port dev.port }) (λ port good inside. port_of_platform (good inside))
      (find (λ port. port.id == dev.port) cfg.platform.ports)
      (found_fits (λ port. is_within (port_range port.base) at ≡ true → is_in_one (λ port. port_range port.base) cfg.platform.ports at ≡ true)
      (λ port. port.id == dev.port) cfg.platform.ports (among (λ port. port_range port.base) cfg.platform.ports at))

  ipc_backs : (ipc : IpcData) → IfSome (ipc_entry cfg ipc) Backs
  ipc_backs ipc =
      made_fits (λ shmem. is_within shmem.range at ≡ true → is_in_one (λ shmem. shmem.range) cfg.shmems at ≡ true) Backs
      (λ shmem. record { range = shmem.range; kind = Window ipc.shmem ipc.write }) (λ shmem good inside. used_by_shmem (good inside))
      (slice_get cfg.shmems ipc.shmem)
      (got_fits (λ shmem. is_within shmem.range at ≡ true → is_in_one (λ shmem. shmem.range) cfg.shmems at ≡ true) cfg.shmems ipc.shmem
      (among (λ shmem. shmem.range) cfg.shmems at))

  all_back : (v : ℕ) (vm : VmData) → IsVm cfg v vm → All Backs (map_of cfg vm)
  all_back v vm is =
      All-append Backs (map region_entry vm.regions ++ filter_map (dev_entry cfg) vm.devs ++ filter_map (ipc_entry cfg) vm.ipcs) (map guard_entry vm.guards)
      (All-append Backs (map region_entry vm.regions ++ filter_map (dev_entry cfg) vm.devs) (filter_map (ipc_entry cfg) vm.ipcs)
      (All-append Backs (map region_entry vm.regions) (filter_map (dev_entry cfg) vm.devs)
      (All-map Backs region_entry vm.regions
      (λ k d low inside. used_by_region v vm is (among (λ region. region.range) vm.regions at k d low inside)))
      (picked_fit Backs (dev_entry cfg) dev_backs vm.devs))
      (picked_fit Backs (ipc_entry cfg) ipc_backs vm.ipcs))
      (All-map Backs guard_entry vm.guards (λ k d low inside. tt))

  -- the first that contains the byte backs it
  found_backs : (entries : List MapEntry) → All Backs entries → IsBackedAs cfg events at (kind_of (find (λ entry. is_within entry.range at) entries))
  found_backs [] all = tt
  found_backs (entry ∷ entries) all =
      by_test (is_within entry.range at) refl (found_backs entries (All-tail Backs entry entries all))
    where
      by_test : (b : Bool) → is_within entry.range at ≡ b
          → IsBackedAs cfg events at (kind_of (find (λ entry. is_within entry.range at) entries))
          → IsBackedAs cfg events at (kind_of (cond b (Some entry) (find (λ entry. is_within entry.range at) entries)))
      by_test true e rest = All-head Backs entry entries all e
      by_test false e rest = rest

  pub backed : (v : ℕ) (vm : VmData) → IsVm cfg v vm → IsBackedAs cfg events at (kind_at cfg vm at)
  backed v vm is = found_backs (reverse (map_of cfg vm)) (all_reversed Backs (map_of cfg vm) (all_back v vm is))
