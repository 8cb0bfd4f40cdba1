-- The rules of a configuration give the premises of isolation.
use Rattle.std.proofs.Common.{◌≡◌, ◌≢◌, ℕ, ◌+◌, ◌-◌, ◌%◌, ◌<◌, ◌≤◌, Bool, true, false, List, length, refl, sym, ap, subst, ◌∙◌, arith}
use Rattle.std.specs.Prelude.{IsTrue, IsFalse, ◌||◌, Option, None, Some, slice_get, if◌then◌else◌}
use Rattle.std.proofs.lemmas.Bool.{eq-eqb}
use Rattle.std.proofs.lemmas.Bool.Decides.{nat_tests}
use Rattle.bao_types.specs.ByteRange.{is_within}
use Rattle.bao_types.specs.declared.access.Access.TheVariants.{Read, Write}
use Rattle.bao_types.specs.declared.access.Class.TheVariants.{Nothing, Hyp}
use Rattle.bao_config.specs.Data.{ConfigData, VmData}
use Rattle.bao_wellformed.specs.declared.map.Kind.{Kind}
use Rattle.bao_wellformed.specs.declared.map.Kind.TheVariants.{Ram, Port, Window, Hole}
use Rattle.bao_wellformed.specs.Map.{kind_at, guest_class, has_core, has_port, owner, verdict_of, by_map}
use Rattle.bao_wellformed.specs.ByteRules.{is_present, is_ram, shmem_of}
use Rattle.bao_wellformed.specs.WellFormed.{IsWellFormed}
use Rattle.bao_wellformed.proofs.Apart.{maps_apart}
use Rattle.bao_wellformed.proofs.Kept.{kept}
use Rattle.bao_wellformed.proofs.Once.{cores_apart, cores_owned, ports_apart}
use Rattle.bao_wellformed.proofs.Places.{maps_granular, places_own}
use Rattle.board.specs.Stage.{is_allowed}
use Rattle.board.specs.Reached.{ReachesPort}
use Rattle.vm_model.specs.Flat.{platform_places}
use Rattle.vm_model.specs.Cores.{is_place}
use Rattle.vm_model.specs.Lone.{is_window, is_core_of, is_in_window}
use Rattle.vm_model.specs.Agree.{IsInMap}
use Rattle.vm_model.specs.Apart.{WellFormedApart, WellFormedGranular}
use Rattle.vm_model.proofs.Lists.{found_got}
use Rattle.vm_model.proofs.Banks.{port_owned}
use Rattle.vm_model.proofs.Own.{allowed_in_map, present_of}

-- what is of a shared memory is a window
window_of : (kind : Kind) (shmem : ℕ) → shmem_of kind ≡ Some shmem → IsTrue (is_window kind)
window_of (Ram write exec) shmem e = cc
window_of (Port id) shmem e = cc
window_of (Window own write) shmem e = refl
window_of Hole shmem e = cc

-- memory of a VM's own is in its map, and of no shared memory
own_present : (kind : Kind) → IsTrue (is_ram false kind) → IsTrue (is_present kind)
own_present (Ram write exec) own = refl
own_present (Port id) own = cc
own_present (Window shmem write) own = cc
own_present Hole own = cc

own_unshared : (kind : Kind) (shmem : ℕ) → IsTrue (is_ram false kind) → shmem_of kind ≡ Some shmem → ⊥
own_unshared (Ram write exec) shmem own e = cc
own_unshared (Port id) shmem own e = cc
own_unshared (Window id write) shmem own e = cc
own_unshared Hole shmem own e = cc

-- a core without a VM may store nowhere
none_allowed : (hyp : Bool) → IsTrue (is_allowed (verdict_of (if hyp then Hyp else Nothing) Write)) → ⊥
none_allowed true may = cc
none_allowed false may = cc

none_reached : (hyp : Bool)
    → IsTrue (is_allowed (verdict_of (if hyp then Hyp else Nothing) Read) || is_allowed (verdict_of (if hyp then Hyp else Nothing) Write)) → ⊥
none_reached true may = cc
none_reached false may = cc

-- what holds by each of two tests holds by either
by_either : {P : Type 0} (a b : Bool) → (IsTrue a → P) → (IsTrue b → P) → IsTrue (a || b) → P
by_either true b first second h = first refl
by_either false b first second h = second h

-- a longer range has the bytes of a shorter one
within_longer : (base short long at : ℕ) → short ≤ long → IsTrue (is_within (record { base = base; size = short }) at)
    → IsTrue (is_within (record { base = base; size = long }) at)
within_longer base short long at fits inside = grind (arith, nat_tests)

module _ (cfg : ConfigData) (v : ℕ) (vm : VmData) (well_formed : IsWellFormed cfg) (place : slice_get cfg.vms v ≡ Some vm) where
  -- a core in a VM's list is one of the VM at its place
  core_of_place : (core w : ℕ) (other : VmData) → slice_get cfg.vms w ≡ Some other → IsTrue (has_core core other) → w ≡ v
      → IsTrue (is_core_of cfg v core)
  core_of_place core w other there has same =
      ap (is_place v) (cores_owned cfg w other core well_formed there has) ∙ eq-eqb w v same

  core_of_own : (core w : ℕ) (other : VmData) → slice_get cfg.vms w ≡ Some other → IsTrue (has_core core other)
      → IsTrue (is_core_of cfg w core)
  core_of_own core w other there has =
      ap (is_place w) (cores_owned cfg w other core well_formed there has) ∙ eq-eqb w w refl

  other_place : (core w : ℕ) (other : VmData) → IsFalse (is_core_of cfg v core) → slice_get cfg.vms w ≡ Some other
      → IsTrue (has_core core other) → w ≢ v
  other_place core w other stranger there has same =
      let clash : true ≡ false = sym (core_of_place core w other there has same) ∙ stranger in cc

  -- where a core may store by the map of its owner, if it has one
  by_owner : (core at : ℕ) → IsFalse (is_core_of cfg v core) → IsInMap cfg vm at → (o : Option VmData) → owner cfg core ≡ o
      → IsTrue (is_allowed (verdict_of (if is_within cfg.hyp at then Hyp else guest_class cfg o at) Write))
      → IsTrue (is_in_window cfg (Some vm) at)
  by_owner core at stranger in_map None e may = absurd (none_allowed (is_within cfg.hyp at) may)
  by_owner core at stranger in_map (Some other) e may =
      let got = found_got (has_core core) cfg.vms other e in
      let differ = other_place core got.0 other stranger got.1 got.2 in
      let both =
      maps_apart cfg v got.0 vm other at well_formed (λ same. differ (sym same)) place got.1 in_map
      (present_of (is_within cfg.hyp at) (kind_at cfg other at) Write may) in
      window_of (kind_at cfg vm at) both.0 both.1

  stores_to_windows : (core at : ℕ) → IsFalse (is_core_of cfg v core) → IsTrue (is_allowed (by_map cfg core Write at))
      → IsInMap cfg vm at → IsTrue (is_in_window cfg (Some vm) at)
  unfolding by_map
  stores_to_windows core at stranger may in_map = by_owner core at stranger in_map (owner cfg core) refl may

  -- a port of which a core may read or write a byte is its VM's
  reaches_own : (core port : ℕ) → IsTrue (is_core_of cfg v core) → ReachesPort (by_map cfg core) (platform_places cfg) port
      → IsTrue (has_port port vm)
  reaches_own core port own reached =
      port_owned cfg (kept cfg well_formed) v vm place reached.at (record { port = port; offset = reached.offset }) reached.place
      (by_either (is_allowed (by_map cfg core Read reached.at)) (is_allowed (by_map cfg core Write reached.at))
      (allowed_in_map cfg v vm place core own Read reached.at) (allowed_in_map cfg v vm place core own Write reached.at) reached.allowed)

  -- so none that a core of another reaches is the VM's
  by_reaching : (core port : ℕ) → IsFalse (is_core_of cfg v core) → (o : Option VmData) → owner cfg core ≡ o
      → ReachesPort (by_map cfg core) (platform_places cfg) port → IsTrue (has_port port vm) → ⊥
  unfolding by_map
  by_reaching core port stranger None e reached has =
      none_reached (is_within cfg.hyp reached.at)
      (subst
      (λ o. IsTrue (is_allowed (verdict_of (if is_within cfg.hyp reached.at then Hyp else guest_class cfg o reached.at) Read)
      || is_allowed (verdict_of (if is_within cfg.hyp reached.at then Hyp else guest_class cfg o reached.at) Write))) e reached.allowed)
  by_reaching core port stranger (Some other) e reached has =
      let got = found_got (has_core core) cfg.vms other e in
      let differ = other_place core got.0 other stranger got.1 got.2 in
      let own = core_of_own core got.0 other got.1 got.2 in
      differ
      (sym (ports_apart cfg v got.0 vm other port well_formed place got.1 has
      (port_owned cfg (kept cfg well_formed) got.0 other got.1 reached.at (record { port = port; offset = reached.offset }) reached.place
      (by_either (is_allowed (by_map cfg core Read reached.at)) (is_allowed (by_map cfg core Write reached.at))
      (allowed_in_map cfg got.0 other got.1 core own Read reached.at) (allowed_in_map cfg got.0 other got.1 core own Write reached.at)
      reached.allowed))))

  reaches_no_other : (core port : ℕ) → IsFalse (is_core_of cfg v core) → ReachesPort (by_map cfg core) (platform_places cfg) port
      → (b : Bool) → has_port port vm ≡ b → IsFalse b
  reaches_no_other core port stranger reached false e = refl
  reaches_no_other core port stranger reached true e = absurd (by_reaching core port stranger (owner cfg core) refl reached e)

  -- an image lies in its VM's place, which is memory of that VM's own
  loads_elsewhere : (w : ℕ) (other : VmData) (image : List ℕ) (at : ℕ) → length image ≤ other.place.size → w ≢ v
      → slice_get cfg.vms w ≡ Some other → IsInMap cfg vm at
      → (b : Bool) → is_within (record { base = other.place.base; size = length image }) at ≡ b → IsFalse b
  loads_elsewhere w other image at fits differ there in_map false e = refl
  loads_elsewhere w other image at fits differ there in_map true e =
      let own =
      places_own cfg w other at well_formed there
      (within_longer other.place.base (length image) other.place.size at fits e) in
      let both =
      maps_apart cfg v w vm other at well_formed (λ same. differ (sym same)) place there in_map
      (own_present (kind_at cfg other at) own) in
      absurd (own_unshared (kind_at cfg other at) both.0 own both.2)

-- a core of another VM isn't the VM's
lacked : (cfg : ConfigData) (v : ℕ) (vm : VmData) → IsWellFormed cfg → slice_get cfg.vms v ≡ Some vm
    → (w : ℕ) (other : VmData) (core : ℕ) → w ≢ v → slice_get cfg.vms w ≡ Some other → IsTrue (has_core core other)
    → (b : Bool) → has_core core vm ≡ b → IsFalse b
lacked cfg v vm well_formed place w other core differ there has true own =
    absurd (differ (cores_apart cfg w v other vm core well_formed there place has own))
lacked cfg v vm well_formed place w other core differ there has false own = refl

-- nor is a port that another VM is given
ungiven : (cfg : ConfigData) (v : ℕ) (vm : VmData) → IsWellFormed cfg → slice_get cfg.vms v ≡ Some vm
    → (w : ℕ) (other : VmData) (port : ℕ) → w ≢ v → slice_get cfg.vms w ≡ Some other → IsTrue (has_port port other)
    → (b : Bool) → has_port port vm ≡ b → IsFalse b
ungiven cfg v vm well_formed place w other port differ there has true own =
    absurd (differ (ports_apart cfg w v other vm port well_formed there place has own))
ungiven cfg v vm well_formed place w other port differ there has false own = refl

-- each VM of a well-formed configuration is apart from the others
pub well_formed_apart : WellFormedApart
well_formed_apart cfg images v vm well_formed fits rooms place = record {
  place = place;
  cores = λ core has. core_of_place cfg v vm well_formed place core v vm place has refl;
  other_cores = λ w other core differ there has. lacked cfg v vm well_formed place w other core differ there has (has_core core vm) refl;
  stores = stores_to_windows cfg v vm well_formed place;
  loads = λ w other image at differ there given in_map.
      loads_elsewhere cfg v vm well_formed place w other image at (rooms.each w other image there given) differ there in_map
      (is_within (record { base = other.place.base; size = length image }) at) refl;
  own_ports = reaches_own cfg v vm well_formed place;
  other_ports = λ core port stranger reached.
      reaches_no_other cfg v vm well_formed place core port stranger reached (has_port port vm) refl;
  other_devs = λ w other port differ there has. ungiven cfg v vm well_formed place w other port differ there has (has_port port vm) refl;
}

-- 16 bytes from a multiple of 16 on lie between two multiples of 64
pub well_formed_granular : WellFormedGranular
well_formed_granular cfg v vm fits place at k aligned low =
    let first : (at - at % 64) % 64 ≡ 0 = omega arith in
    let here : at - at % 64 + at % 64 ≡ at = omega arith in
    let there : at - at % 64 + (at % 64 + k) ≡ at + k = omega arith in
    let near : at % 64 + k < 64 = omega (arith, aligned, low) in
    let within : at % 64 < 64 = omega arith in
    ap (kind_at cfg vm) (sym there) ∙ maps_granular cfg v vm (at - at % 64) (at % 64 + k) fits place first near
    ∙ sym (maps_granular cfg v vm (at - at % 64) (at % 64) fits place first within) ∙ ap (kind_at cfg vm) here
