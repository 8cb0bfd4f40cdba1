-- What the other laws of a well-formed configuration need: places, granules, and where maps end.
use Rattle.std.proofs.Common.{◌≡◌, ℕ, suc, ◌+◌, ◌≤◌, ◌==◌, Bool, true, false, not, ◌&&◌, List, [], ◌∷◌, ◌++◌, map, filter, All, length, get_or, nat_le, nat_lt, None, sym, subst, ap, ◌∙◌, arith}
use Rattle.std.specs.List.{flat_map}
use Rattle.std.proofs.lemmas.Bool.{not-false, or_parts, ltb-false}
use Rattle.std.proofs.lemmas.Bool.Decides.{nat_tests}
use Rattle.std.proofs.lemmas.Option.{slice_get-get_or}
use Rattle.std.proofs.lemmas.List.Elements.{All-head, All-tail, All-weaker}
use Rattle.bao_types.specs.declared.range.ByteRange.{ByteRange}
use Rattle.bao_types.specs.ByteRange.{address_space_end, end, is_within}
use Rattle.bao_types.specs.Shape.{port_range}
use Rattle.bao_config.specs.Data.{ConfigData, VmData}
use Rattle.bao_wellformed.specs.declared.map.MapEntry.{MapEntry}
use Rattle.bao_wellformed.specs.Map.{map_of}
use Rattle.bao_wellformed.specs.Break.{indexed}
use Rattle.bao_wellformed.specs.Rules.{all_ranges, distributor, foreign_cores, redistributors, vm_ranges}
use Rattle.bao_wellformed.specs.ByteRules.{bounds_of, is_lacking, is_ram, kind_in, least_lacking, place_not_ram, start_not_executable, first_instruction, is_clash}
use Rattle.bao_wellformed.specs.Laws.{ClashLeast, CoresOfPlatform, HypervisorInSpace, IsLeast, IsVm, LackingLeast, MapsGranular, MapsInSpace, PlacesOwn, StartsExecutable}
use Rattle.bao_wellformed.specs.WellFormed.{IsWellFormed}
use Rattle.bao_wellformed.proofs.Apart.{clash_changes}
use Rattle.bao_wellformed.proofs.Bytes.{kind_alike, kind_changes, within_granule, within_next}
use Rattle.bao_wellformed.proofs.Empty.{all_fail, all_of_viewed, indexed_got, map_empty, none_in_each, none_passes, none_passes_in, none_passes_of, option_empty}
use Rattle.bao_wellformed.proofs.Fits.{EntryFits, map_all, map_fits, vm_fits}
use Rattle.bao_wellformed.proofs.Kept.{kept}
use Rattle.bao_wellformed.proofs.Least.{ChangesOnlyAt, least_of_all}

lacking_changes : (executable : Bool) (range : ByteRange) (entries : List MapEntry)
    → ChangesOnlyAt (range.base ∷ end range ∷ bounds_of entries) (is_lacking executable range entries)
lacking_changes executable range entries at unlisted =
    let outer = or_parts (range.base == suc at) _ unlisted in
    let inner = or_parts (end range == suc at) _ outer.1 in
    ap (λ b. b && not (is_ram executable (kind_in entries (suc at)))) (within_next range at outer.0 inner.0)
    ∙ ap (λ kind. is_within range at && not (is_ram executable kind)) (kind_changes entries at inner.1)

pub lacking_least : LackingLeast
lacking_least executable range entries =
    least_of_all (is_lacking executable range entries) (range.base ∷ end range ∷ bounds_of entries) (lacking_changes executable range entries)

pub clash_least : ClashLeast
clash_least ones others =
    least_of_all (λ at. is_clash (kind_in ones at) (kind_in others at)) (bounds_of ones ++ bounds_of others) (clash_changes ones others)

-- where no byte of a range is lacking, each is of the wanted kind
none_lacking : (executable : Bool) (range : ByteRange) (entries : List MapEntry) → least_lacking executable range entries ≡ None
    → (at : ℕ) → is_within range at ≡ true → is_ram executable (kind_in entries at) ≡ true
none_lacking executable range entries none at inside =
    let all = subst (IsLeast (is_lacking executable range entries)) none (lacking_least executable range entries) in
    not-false (is_ram executable (kind_in entries at)) (ap (λ b. b && not (is_ram executable (kind_in entries at))) (sym inside) ∙ all at)

pub places_own : PlacesOwn
places_own cfg v vm at well_formed is inside =
    let nothing = none_in_each (λ (v, vm). place_not_ram cfg v vm) (indexed cfg.vms) (kept cfg well_formed).r20 v (v, vm) (indexed_got v cfg.vms vm is) in
    none_lacking false vm.place (map_of cfg vm) (option_empty _ (least_lacking false vm.place (map_of cfg vm)) nothing) at inside

pub starts_executable : StartsExecutable
starts_executable cfg v vm at well_formed is inside =
    let nothing = none_in_each (λ (v, vm). start_not_executable cfg v vm) (indexed cfg.vms) (kept cfg well_formed).r21 v (v, vm) (indexed_got v cfg.vms vm is) in
    none_lacking true (first_instruction vm) (map_of cfg vm) (option_empty _ (least_lacking true (first_instruction vm) (map_of cfg vm)) nothing) at inside

pub maps_granular : MapsGranular
maps_granular cfg v vm at k fits is aligned low =
    kind_alike (map_of cfg vm) (at + k) at
    (All-weaker EntryFits (λ entry. is_within entry.range (at + k) ≡ is_within entry.range at)
    (λ entry fit. within_granule entry.range.base entry.range.size at k fit.base.multiple fit.size.multiple aligned low) (map_of cfg vm)
    (map_fits cfg vm fits (vm_fits cfg v vm fits is)))

-- a range that doesn't end above the space ends in it
abbrev is_outside : ByteRange → Bool
is_outside range = nat_lt address_space_end (end range)

abbrev EndsInSpace : ByteRange → Type 0
EndsInSpace range = end range ≤ address_space_end

all_inside : (ranges : List ByteRange) → filter is_outside ranges ≡ [] → All EndsInSpace ranges
all_inside ranges e =
    All-weaker (λ range. is_outside range ≡ false) EndsInSpace (λ range h. ltb-false address_space_end (end range) h) ranges (all_fail is_outside ranges e)

module _ (cfg : ConfigData) (well_formed : IsWellFormed cfg) where
  none_outside : filter is_outside (all_ranges cfg) ≡ []
  none_outside = map_empty _ _ (kept cfg well_formed).r1

  abbrev banks_and_frames : List ByteRange
  banks_and_frames = cfg.platform.banks ++ distributor cfg ∷ redistributors cfg ∷ map (λ port. port_range port.base) cfg.platform.ports

  abbrev hyp_and_shmems : List ByteRange
  hyp_and_shmems = cfg.hyp ∷ map (λ shmem. shmem.range) cfg.shmems

  of_vms : filter is_outside (flat_map vm_ranges cfg.vms) ≡ []
  of_vms = (none_passes_in is_outside (banks_and_frames ++ hyp_and_shmems) (flat_map vm_ranges cfg.vms) none_outside).1

  of_platform : filter is_outside (banks_and_frames ++ hyp_and_shmems) ≡ []
  of_platform = (none_passes_in is_outside (banks_and_frames ++ hyp_and_shmems) (flat_map vm_ranges cfg.vms) none_outside).0

  of_hyp : All EndsInSpace hyp_and_shmems
  of_hyp = all_inside hyp_and_shmems (none_passes_in is_outside banks_and_frames hyp_and_shmems of_platform).1

  abbrev ports : List ByteRange
  ports = map (λ port. port_range port.base) cfg.platform.ports

  abbrev frames_and_ports : List ByteRange
  frames_and_ports = distributor cfg ∷ redistributors cfg ∷ ports

  of_frames : filter is_outside frames_and_ports ≡ []
  of_frames = (none_passes_in is_outside cfg.platform.banks frames_and_ports (none_passes_in is_outside banks_and_frames hyp_and_shmems of_platform).0).1

  of_ports : All EndsInSpace ports
  of_ports =
      All-tail EndsInSpace (redistributors cfg) ports (All-tail EndsInSpace (distributor cfg) (redistributors cfg ∷ ports) (all_inside frames_and_ports of_frames))

  abbrev place_and_regions : VmData → List ByteRange
  place_and_regions vm = vm.place ∷ map (λ region. region.range) vm.regions

  in_space : (v : ℕ) (vm : VmData) → IsVm cfg v vm → All (λ entry. end entry.range ≤ address_space_end) (map_of cfg vm)
  in_space v vm is =
      let own = none_passes_in is_outside (place_and_regions vm) vm.guards (none_passes_of is_outside vm_ranges cfg.vms of_vms v vm is) in
      map_all EndsInSpace cfg vm
      (all_of_viewed EndsInSpace (λ region. region.range) vm.regions (All-tail EndsInSpace vm.place (map (λ region. region.range) vm.regions) (all_inside (place_and_regions vm) own.0)))
      (all_of_viewed EndsInSpace (λ port. port_range port.base) cfg.platform.ports of_ports)
      (all_of_viewed EndsInSpace (λ shmem. shmem.range) cfg.shmems (All-tail EndsInSpace cfg.hyp (map (λ shmem. shmem.range) cfg.shmems) of_hyp)) (all_inside vm.guards own.1)

pub maps_in_space : MapsInSpace
maps_in_space cfg v vm well_formed is = in_space cfg well_formed v vm is

pub hypervisor_in_space : HypervisorInSpace
hypervisor_in_space cfg well_formed = All-head EndsInSpace cfg.hyp (map (λ shmem. shmem.range) cfg.shmems) (of_hyp cfg well_formed)

pub cores_of_platform : CoresOfPlatform
cores_of_platform cfg v vm well_formed is k d low =
    let nothing = none_in_each (λ (v, vm). foreign_cores cfg v vm) (indexed cfg.vms) (kept cfg well_formed).r10 v (v, vm) (indexed_got v cfg.vms vm is) in
    let core = get_or vm.cores k d in
    let own : nat_le (length cfg.platform.cores) core ≡ false =
    none_passes (λ (j, core). nat_le (length cfg.platform.cores) core) (indexed vm.cores) (map_empty _ _ nothing) k (k, core)
    (indexed_got k vm.cores core (slice_get-get_or vm.cores k d low)) in
    grind (arith, nat_tests)
