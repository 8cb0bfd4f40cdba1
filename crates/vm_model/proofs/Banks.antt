-- Where the ports of a well-formed configuration stand: none of them has a byte of memory, and no two have the same byte. So a
-- byte of a VM's map that is a port's is of a port of the VM's.
use Rattle.std.proofs.Common.{◌≡◌, ℕ, suc, ◌+◌, ◌-◌, ◌<◌, ◌==◌, Bool, true, false, not, List, [], ◌∷◌, ◌++◌, map, filter, filter_map, find, length, get_or, slice_get, reverse, All, Option, Some, None, IfSome, option_map, inl, inr, ◌⊎◌, refl, sym, ap, subst, ◌∙◌, arith}
use Rattle.std.specs.Prelude.{IsTrue, IsFalse, ◌||◌}
use Rattle.std.specs.List.{cons_option, list_any}
use Rattle.std.proofs.lemmas.Bool.{cases_order, eqb-true, not-false}
use Rattle.std.proofs.lemmas.Bool.Decides.{nat_tests}
use Rattle.std.proofs.lemmas.List.{length-map}
use Rattle.std.proofs.lemmas.List.Elements.{All-append, All-cons, All-map, All-nil, All-weaker}
use Rattle.std.proofs.lemmas.Option.{slice_get-get_or, slice_get_within}
use Rattle.bao_types.specs.declared.range.ByteRange.{ByteRange}
use Rattle.bao_types.specs.ByteRange.{is_within, lies_in, overlaps}
use Rattle.bao_types.specs.Shape.{port_range}
use Rattle.bao_config.specs.declared.config.Dev.{Dev}
use Rattle.bao_config.specs.declared.config.PortPlace.{PortPlace}
use Rattle.bao_config.specs.Data.{ConfigData, IpcData, VmData}
use Rattle.bao_wellformed.specs.declared.map.Kind.TheVariants.{Port, Window}
use Rattle.bao_wellformed.specs.declared.map.MapEntry.{MapEntry}
use Rattle.bao_wellformed.specs.Break.{indexed, pairs}
use Rattle.bao_wellformed.specs.ByteRules.{is_present}
use Rattle.bao_wellformed.specs.Laws.{IsVm}
use Rattle.bao_wellformed.specs.Map.{dev_entry, guard_entry, has_port, ipc_entry, kind_at, kind_of, map_of, region_entry}
use Rattle.bao_wellformed.specs.Rules.{are_too_near, distributor, frame, lies_in_a_bank, pieces, plain, redistributors, regions_outside}
use Rattle.bao_wellformed.proofs.Bytes.{all_reversed}
use Rattle.bao_wellformed.proofs.Empty.{all_fail, any_got, indexed_got, is_pair, left_got, map_empty, map_got, none_in_each, none_passes}
use Rattle.bao_wellformed.proofs.Fits.{got_fits, made_fits, picked_fit}
use Rattle.bao_wellformed.proofs.Kept.{IsKept}
use Rattle.board.specs.Ports.{PortByte}
use Rattle.vm_model.specs.Flat.{platform_places}
use Rattle.vm_model.proofs.Lists.{found_got}

-- what an empty list of breaks says of two items at two places
pub pair_fails : {A : Type 0} (near : A → A → Bool) (xs : List A) → filter (λ (one, other). near one other) (pairs xs) ≡ []
    → (i j : ℕ) (one other : A) → slice_get xs i ≡ Some one → slice_get xs j ≡ Some other → i < j → near one other ≡ false
pair_fails {A} near xs none i j one other first second less =
    let test : A × A → Bool = λ (one, other). near one other in
    let pair = is_pair xs i j one other first second less in
    none_passes test (pairs xs) none pair.place (one, other) pair.got

-- what overlaps nothing of a range overlaps nothing in it
inside_apart : (inner outer other : ByteRange) → lies_in inner outer ≡ true → overlaps outer other ≡ false → overlaps inner other ≡ false
inside_apart inner outer other lies apart = grind (arith, nat_tests)

after_front : {A : Type 0} (front rest : List A) (k : ℕ) (x : A) → slice_get rest k ≡ Some x → slice_get (front ++ rest) (length front + k) ≡ Some x
after_front [] rest k x got = let e : 0 + k ≡ k = omega arith in ap (slice_get rest) e ∙ got
after_front (one ∷ front) rest k x got =
    let e : suc (length front) + k ≡ suc (length front + k) = omega arith in ap (slice_get (one ∷ front ++ rest)) e ∙ after_front front rest k x got

-- two ranges that have one byte overlap
meet : (one other : ByteRange) (at : ℕ) → is_within one at ≡ true → is_within other at ≡ true → overlaps one other ≡ false → ⊥
meet one other at first second apart = absurd (grind (arith, nat_tests))

-- what a value was made of
made_of : {A B : Type 0} (f : A → B) (o : Option A) (y : B) → option_map f o ≡ Some y → (x : A) × (o ≡ Some x) × (f x ≡ y)
made_of f None y e = cc
made_of f (Some x) y e = let same : f x ≡ y = cc in (x, refl, same)

module _ (cfg : ConfigData) (keeps : IsKept cfg) where
  pub bank_at : (k : ℕ) (bank : ByteRange) → slice_get cfg.platform.banks k ≡ Some bank → slice_get (pieces cfg) k ≡ Some (plain bank)
  bank_at k bank got =
      left_got (map plain cfg.platform.banks)
      (frame (distributor cfg) ∷ frame (redistributors cfg) ∷ map (λ port. plain (port_range port.base)) cfg.platform.ports) k (plain bank)
      (map_got plain cfg.platform.banks k bank got)

  -- the ports stand after the banks and the two frames
  pub port_at : (k : ℕ) (port : PortPlace) → slice_get cfg.platform.ports k ≡ Some port
      → slice_get (pieces cfg) (length cfg.platform.banks + suc (suc k)) ≡ Some (plain (port_range port.base))
  port_at k port got =
      let count = length-map cfg.platform.banks plain in
      let place : length cfg.platform.banks + suc (suc k) ≡ length (map plain cfg.platform.banks) + suc (suc k) = omega (arith, count) in
      ap (slice_get (pieces cfg)) place
      ∙ after_front (map plain cfg.platform.banks)
      (frame (distributor cfg) ∷ frame (redistributors cfg) ∷ map (λ port. plain (port_range port.base)) cfg.platform.ports) (suc (suc k))
      (plain (port_range port.base)) (map_got (λ port. plain (port_range port.base)) cfg.platform.ports k port got)

  abbrev pub IsInABank : ByteRange → Type 0
  IsInABank range = IsTrue (lies_in_a_bank cfg range)

  pub regions_in_banks : (v : ℕ) (vm : VmData) → IsVm cfg v vm → All (λ region. IsInABank region.range) vm.regions
  regions_in_banks v vm is k d low =
      let nothing = none_in_each (λ (v, vm). regions_outside cfg v vm) (indexed cfg.vms) keeps.r12 v (v, vm) (indexed_got v cfg.vms vm is) in
      let region = get_or vm.regions k d in
      not-false (lies_in_a_bank cfg region.range)
      (none_passes (λ (j, region). not (lies_in_a_bank cfg region.range)) (indexed vm.regions) (map_empty _ _ nothing) k (k, region)
      (indexed_got k vm.regions region (slice_get-get_or vm.regions k d low)))

  pub shmems_in_banks : All (λ shmem. IsInABank shmem.range) cfg.shmems
  shmems_in_banks =
      All-weaker (λ shmem. not (lies_in_a_bank cfg shmem.range) ≡ false) (λ shmem. IsInABank shmem.range)
      (λ shmem e. not-false (lies_in_a_bank cfg shmem.range) e) cfg.shmems
      (all_fail (λ shmem. not (lies_in_a_bank cfg shmem.range)) cfg.shmems (map_empty _ _ keeps.r6))

  pub off_ports : (range : ByteRange) → IsInABank range → All (λ port. IsFalse (overlaps range (port_range port.base))) cfg.platform.ports
  off_ports range lies i d low =
      let port = get_or cfg.platform.ports i d in
      let in_bank = any_got (λ bank. lies_in range bank) cfg.platform.banks lies in
      let within = slice_get_within cfg.platform.banks in_bank.0 in_bank.1 in_bank.2 in
      inside_apart range in_bank.1 (port_range port.base) in_bank.3
      (pair_fails are_too_near (pieces cfg) (map_empty _ _ keeps.r3) in_bank.0 (length cfg.platform.banks + suc (suc i)) (plain in_bank.1)
      (plain (port_range port.base)) (bank_at in_bank.0 in_bank.1 in_bank.2) (port_at i port (slice_get-get_or cfg.platform.ports i d low))
      (omega (arith, within)))

  -- a range that lies in a bank has no byte of a port
  no_port_in : (range : ByteRange) → IsInABank range → (i : ℕ) (port : PortPlace) (at : ℕ) → slice_get cfg.platform.ports i ≡ Some port
      → is_within range at ≡ true → is_within (port_range port.base) at ≡ true → ⊥
  no_port_in range lies i port at got inside there =
      let apart = got_fits (λ port. IsFalse (overlaps range (port_range port.base))) cfg.platform.ports i (off_ports range lies) in
      meet range (port_range port.base) at inside there
      (subst (λ o. IfSome o (λ port. IsFalse (overlaps range (port_range port.base)))) got apart)

  -- two ports that have one byte are one
  one_port : (i j : ℕ) (port other : PortPlace) (at : ℕ) → slice_get cfg.platform.ports i ≡ Some port
      → slice_get cfg.platform.ports j ≡ Some other → is_within (port_range port.base) at ≡ true
      → is_within (port_range other.base) at ≡ true → port ≡ other
  one_port i j port other at one two here there = by_order (cases_order i j)
    where
      clash : (k l : ℕ) (p q : PortPlace) → slice_get cfg.platform.ports k ≡ Some p → slice_get cfg.platform.ports l ≡ Some q → k < l
          → is_within (port_range p.base) at ≡ true → is_within (port_range q.base) at ≡ true → ⊥
      clash k l p q first second less in_first in_second =
          meet (port_range p.base) (port_range q.base) at in_first in_second
          (pair_fails are_too_near (pieces cfg) (map_empty _ _ keeps.r3) (length cfg.platform.banks + suc (suc k))
          (length cfg.platform.banks + suc (suc l)) (plain (port_range p.base)) (plain (port_range q.base)) (port_at k p first)
          (port_at l q second) (omega (arith, less)))

      by_order : (i ≡ j) ⊎ ((i < j) ⊎ (j < i)) → port ≡ other
      by_order (inl same) =
          let both : Some port ≡ Some other = sym one ∙ ap (slice_get cfg.platform.ports) same ∙ two in cc
      by_order (inr (inl less)) = absurd (clash i j port other one two less here there)
      by_order (inr (inr more)) = absurd (clash j i other port two one more there here)

  module _ (v : ℕ) (vm : VmData) (is : IsVm cfg v vm) (at : ℕ) (byte : PortByte) (place : platform_places cfg at ≡ Some byte) where
    -- the port that has the byte
    made : (port : PortPlace) × (find (λ port. is_within (port_range port.base) at) cfg.platform.ports ≡ Some port)
        × (record { port = port.id; offset = at - port.base } ≡ byte)
    made = made_of (λ port. record { port = port.id; offset = at - port.base }) _ byte place

    abbrev port_there : PortPlace
    port_there = made.0

    got : (place : ℕ) × (slice_get cfg.platform.ports place ≡ Some port_there) × IsTrue (is_within (port_range port_there.base) at)
    got = found_got (λ port. is_within (port_range port.base) at) cfg.platform.ports made.0 made.1

    -- an entry of the VM's map that has it, and is no hole, is of a device of the VM's
    abbrev Owns : MapEntry → Type 0
    Owns entry = is_within entry.range at ≡ true → is_present entry.kind ≡ true → IsTrue (has_port byte.port vm)

    of_memory : (entry : MapEntry) → IsInABank entry.range → Owns entry
    of_memory entry lies inside present = absurd (no_port_in entry.range lies got.0 port_there at got.1 inside got.2)

    of_device : (dev : Dev) → IsTrue (has_port dev.port vm) → IfSome (dev_entry cfg dev) Owns
    of_device dev has = by_found (find (λ port. port.id == dev.port) cfg.platform.ports) refl
      where
        by_found : (o : Option PortPlace) → find (λ port. port.id == dev.port) cfg.platform.ports ≡ o
            → IfSome (option_map (λ port. record { range = port_range port.base; kind = Port dev.port }) o) Owns
        by_found None none = tt
        by_found (Some port) found = λ inside present.
            let own = found_got (λ port. port.id == dev.port) cfg.platform.ports port found in
            let same = one_port got.0 own.0 port_there port at got.1 own.1 got.2 inside in
            let number : byte.port ≡ dev.port =
            sym (ap (λ b. b.port) made.2) ∙ ap (λ p. p.id) same ∙ eqb-true port.id dev.port own.2 in
            subst (λ n. IsTrue (has_port n vm)) (sym number) has

    of_devices : (devs : List Dev) → ((port : ℕ) → IsTrue (list_any (λ dev. dev.port == port) devs) → IsTrue (has_port port vm))
        → All Owns (filter_map (dev_entry cfg) devs)
    of_devices [] all = All-nil Owns
    of_devices (dev ∷ devs) all =
        one_more (dev_entry cfg dev) (of_device dev (all dev.port (here (dev.port == dev.port) refl)))
        (of_devices devs (λ port later. all port (later_too (dev.port == port) _ later)))
      where
        here : (b : Bool) → (dev.port == dev.port) ≡ b → IsTrue (b || list_any (λ d. d.port == dev.port) devs)
        here true e = refl
        here false e = absurd (grind (arith, nat_tests))

        later_too : (a b : Bool) → IsTrue b → IsTrue (a || b)
        later_too true b h = refl
        later_too false b h = h

        one_more : (o : Option MapEntry) → IfSome o Owns → All Owns (filter_map (dev_entry cfg) devs)
            → All Owns (cons_option o (filter_map (dev_entry cfg) devs))
        one_more None fit rest = rest
        one_more (Some entry) fit rest = All-cons Owns entry (filter_map (dev_entry cfg) devs) fit rest

    of_window : (ipc : IpcData) → IfSome (ipc_entry cfg ipc) Owns
    of_window ipc =
        made_fits (λ shmem. IsInABank shmem.range) Owns (λ shmem. record { range = shmem.range; kind = Window ipc.shmem ipc.write })
        (λ shmem lies. of_memory (record { range = shmem.range; kind = Window ipc.shmem ipc.write }) lies) (slice_get cfg.shmems ipc.shmem)
        (got_fits (λ shmem. IsInABank shmem.range) cfg.shmems ipc.shmem shmems_in_banks)

    of_map : All Owns (map_of cfg vm)
    of_map =
        All-append Owns (map region_entry vm.regions ++ filter_map (dev_entry cfg) vm.devs ++ filter_map (ipc_entry cfg) vm.ipcs)
        (map guard_entry vm.guards)
        (All-append Owns (map region_entry vm.regions ++ filter_map (dev_entry cfg) vm.devs) (filter_map (ipc_entry cfg) vm.ipcs)
        (All-append Owns (map region_entry vm.regions) (filter_map (dev_entry cfg) vm.devs)
        (All-map Owns region_entry vm.regions
        (All-weaker (λ region. IsInABank region.range) (λ region. Owns (region_entry region)) (λ region lies. of_memory (region_entry region) lies)
        vm.regions (regions_in_banks v vm is)))
        (of_devices vm.devs (λ port has. has)))
        (picked_fit Owns (ipc_entry cfg) of_window vm.ipcs))
        (All-map Owns guard_entry vm.guards (λ k d low inside present. cc))

    -- so is one that the map gives the VM
    pub port_owned : is_present (kind_at cfg vm at) ≡ true → IsTrue (has_port byte.port vm)
    port_owned present = by_cover (find (λ entry. is_within entry.range at) (reverse (map_of cfg vm))) refl present
      where
        by_cover : (o : Option MapEntry) → find (λ entry. is_within entry.range at) (reverse (map_of cfg vm)) ≡ o
            → is_present (kind_of o) ≡ true → IsTrue (has_port byte.port vm)
        by_cover None none there = cc
        by_cover (Some entry) found there =
            let cover = found_got (λ entry. is_within entry.range at) (reverse (map_of cfg vm)) entry found in
            let owns = got_fits Owns (reverse (map_of cfg vm)) cover.0 (all_reversed Owns (map_of cfg vm) of_map) in
            subst (λ o. IfSome o Owns) cover.1 owns cover.2 there
