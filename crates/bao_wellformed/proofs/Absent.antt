-- The hypervisor's range and the frames of the interrupt controller are in no map.
use Rattle.std.proofs.Common.{◌≡◌, ℕ, ◌+◌, ◌<◌, ◌==◌, inl, inr, Bool, true, false, not, cond, List, [], ◌∷◌, ◌++◌, map, filter_map, find, get_or, slice_get, reverse, length, All, Some, IfSome, refl, sym, subst, ap, ◌∙◌, arith, suc}
use Rattle.std.proofs.lemmas.Bool.{false_from_ne_true, not-false}
use Rattle.std.proofs.lemmas.Bool.Decides.{nat_tests}
use Rattle.std.proofs.lemmas.List.Elements.{All-append, All-head, All-map, All-tail, All-weaker}
use Rattle.std.proofs.lemmas.Option.{slice_get-get_or, slice_get_within}
use Rattle.std.proofs.lemmas.List.{length-map}
use Rattle.bao_types.specs.declared.range.ByteRange.{ByteRange}
use Rattle.bao_types.specs.ByteRange.{is_within, lies_in, overlaps}
use Rattle.bao_types.specs.Shape.{port_range}
use Rattle.bao_config.specs.declared.config.PortPlace.{PortPlace}
use Rattle.bao_config.specs.declared.config.Dev.{Dev}
use Rattle.bao_config.specs.Data.{ConfigData, IpcData, VmData}
use Rattle.bao_wellformed.specs.declared.piece.Piece.{Piece}
use Rattle.bao_wellformed.specs.Break.{indexed, pairs}
use Rattle.bao_wellformed.specs.declared.map.Kind.TheVariants.{Port, Window}
use Rattle.bao_wellformed.specs.declared.map.MapEntry.{MapEntry}
use Rattle.bao_wellformed.specs.Map.{map_of, region_entry, dev_entry, ipc_entry, guard_entry, kind_at, kind_of}
use Rattle.bao_wellformed.specs.Rules.{are_too_near, distributor, frame, lies_in_a_bank, pieces, plain, redistributors, regions_of_the_hypervisor, regions_outside}
use Rattle.bao_wellformed.specs.ByteRules.{is_present}
use Rattle.bao_wellformed.specs.Laws.{IsVm, FramesAbsent, HypervisorAbsent}
use Rattle.bao_wellformed.proofs.Bytes.{all_reversed}
use Rattle.bao_wellformed.proofs.Empty.{all_fail, any_got, indexed_got, is_pair, left_got, map_empty, map_got, none_in_each, none_passes}
use Rattle.bao_wellformed.proofs.Fits.{found_fits, got_fits, made_fits, picked_fit}
use Rattle.bao_wellformed.proofs.Kept.{IsKept, kept}

-- an entry that gives something doesn't contain the byte
abbrev LeavesOut : ℕ → MapEntry → Type 0
LeavesOut at entry = is_present entry.kind ≡ true → is_within entry.range at ≡ false

absent_found : (at : ℕ) (entries : List MapEntry) → All (LeavesOut at) entries
    → is_present (kind_of (find (λ entry. is_within entry.range at) entries)) ≡ false
absent_found at [] all = refl
absent_found at (entry ∷ entries) all = by_test (is_within entry.range at) refl (absent_found at entries (All-tail (LeavesOut at) entry entries all))
  where
    by_test : (b : Bool) → is_within entry.range at ≡ b → is_present (kind_of (find (λ entry. is_within entry.range at) entries)) ≡ false
        → is_present (kind_of (cond b (Some entry) (find (λ entry. is_within entry.range at) entries))) ≡ false
    by_test true inside rest =
        false_from_ne_true (is_present entry.kind)
        (λ there. let out = All-head (LeavesOut at) entry entries all there in let x : true ≡ false = sym inside ∙ out in cc)
    by_test false outside rest = rest

-- what every entry leaves out isn't in the map
absent : (cfg : ConfigData) (vm : VmData) (at : ℕ) → All (λ region. is_within region.range at ≡ false) vm.regions
    → All (λ port. is_within (port_range port.base) at ≡ false) cfg.platform.ports
    → All (λ shmem. is_within shmem.range at ≡ false) cfg.shmems → is_present (kind_at cfg vm at) ≡ false
absent cfg vm at regions ports shmems = absent_found at (reverse (map_of cfg vm)) (all_reversed (LeavesOut at) (map_of cfg vm) all)
  where
    of_dev : (dev : Dev) → IfSome (dev_entry cfg dev) (LeavesOut at)
    of_dev dev =
        made_fits (λ port. is_within (port_range port.base) at ≡ false) (LeavesOut at)
        (λ port. record { range = port_range port.base; kind = Port dev.port }) (λ port out there. out)
        (find (λ port. port.id == dev.port) cfg.platform.ports)
        (found_fits (λ port. is_within (port_range port.base) at ≡ false) (λ port. port.id == dev.port) cfg.platform.ports ports)

    of_ipc : (ipc : IpcData) → IfSome (ipc_entry cfg ipc) (LeavesOut at)
    of_ipc ipc =
        made_fits (λ shmem. is_within shmem.range at ≡ false) (LeavesOut at)
        (λ shmem. record { range = shmem.range; kind = Window ipc.shmem ipc.write }) (λ shmem out there. out) (slice_get cfg.shmems ipc.shmem)
        (got_fits (λ shmem. is_within shmem.range at ≡ false) cfg.shmems ipc.shmem shmems)

    all : All (LeavesOut at) (map_of cfg vm)
    all =
        All-append (LeavesOut at) (map region_entry vm.regions ++ filter_map (dev_entry cfg) vm.devs ++ filter_map (ipc_entry cfg) vm.ipcs)
        (map guard_entry vm.guards)
        (All-append (LeavesOut at) (map region_entry vm.regions ++ filter_map (dev_entry cfg) vm.devs) (filter_map (ipc_entry cfg) vm.ipcs)
        (All-append (LeavesOut at) (map region_entry vm.regions) (filter_map (dev_entry cfg) vm.devs)
        (All-map (LeavesOut at) region_entry vm.regions
        (All-weaker (λ region. is_within region.range at ≡ false) (λ region. LeavesOut at (region_entry region)) (λ region out there. out) vm.regions regions))
        (picked_fit (LeavesOut at) (dev_entry cfg) of_dev vm.devs))
        (picked_fit (LeavesOut at) (ipc_entry cfg) of_ipc vm.ipcs))
        (All-map (LeavesOut at) guard_entry vm.guards (λ k d low there. cc))

-- ranges, byte by byte
range_apart : (one other : ByteRange) (at : ℕ) → overlaps one other ≡ false → is_within other at ≡ true → is_within one at ≡ false
range_apart one other at apart inside = grind (arith, nat_tests)

range_apart_too : (one other : ByteRange) (at : ℕ) → overlaps one other ≡ false → is_within one at ≡ true → is_within other at ≡ false
range_apart_too one other at apart inside = grind (arith, nat_tests)

range_inside : (inner outer : ByteRange) (at : ℕ) → lies_in inner outer ≡ true → is_within outer at ≡ false → is_within inner at ≡ false
range_inside inner outer at lies outside = grind (arith, nat_tests)

range_has : (inner outer : ByteRange) (at : ℕ) → lies_in inner outer ≡ true → is_within inner at ≡ true → is_within outer at ≡ true
range_has inner outer at lies inside = grind (arith, nat_tests)

with_margin : (range : ByteRange) (at : ℕ) → is_within range at ≡ true → is_within (frame range).with_margin at ≡ true
with_margin range at inside = grind (arith, nat_tests)

module _ (cfg : ConfigData) (keeps : IsKept cfg) where
  -- two pieces of the platform at two places aren't too near
  pieces_apart : (i j : ℕ) (one other : Piece) → slice_get (pieces cfg) i ≡ Some one → slice_get (pieces cfg) j ≡ Some other → i < j
      → are_too_near one other ≡ false
  pieces_apart i j one other first second less =
      let test : Piece × Piece → Bool = λ (one, other). are_too_near one other in
      let pair = is_pair (pieces cfg) i j one other first second less in
      none_passes test (pairs (pieces cfg)) (map_empty _ _ keeps.r3) pair.place (one, other) pair.got

  abbrev banks : List Piece
  banks = map plain cfg.platform.banks

  abbrev after_banks : List Piece
  after_banks = frame (distributor cfg) ∷ frame (redistributors cfg) ∷ map (λ port. plain (port_range port.base)) cfg.platform.ports

  -- where a bank stands among the pieces, and what stands after the banks
  bank_at : (k : ℕ) (bank : ByteRange) → slice_get cfg.platform.banks k ≡ Some bank → slice_get (pieces cfg) k ≡ Some (plain bank)
  bank_at k bank got = left_got banks after_banks k (plain bank) (map_got plain cfg.platform.banks k bank got)

  after_at : (k : ℕ) (piece : Piece) → slice_get after_banks k ≡ Some piece → slice_get (pieces cfg) (length banks + k) ≡ Some piece
  after_at k piece got = behind banks k
    where
      behind : (front : List Piece) (k' : ℕ) → slice_get (front ++ after_banks) (length front + k) ≡ Some piece
      behind [] k' = let e : 0 + k ≡ k = omega arith in ap (slice_get after_banks) e ∙ got
      behind (piece' ∷ front) k' = let e : suc (length front) + k ≡ suc (length front + k) = omega arith in ap (slice_get (piece' ∷ front ++ after_banks)) e ∙ behind front k'

  -- no bank has a byte of what stands after the banks, nor of its margin
  banks_leave_out : (k : ℕ) (piece : Piece) (at : ℕ) → slice_get after_banks k ≡ Some piece → is_within piece.with_margin at ≡ true
      → All (λ bank. is_within bank at ≡ false) cfg.platform.banks
  banks_leave_out k piece at got inside i d low =
      let bank = get_or cfg.platform.banks i d in
      let count : length banks ≡ length cfg.platform.banks = length-map cfg.platform.banks plain in
      range_apart bank piece.with_margin at
      (pieces_apart i (length banks + k) (plain bank) piece (bank_at i bank (slice_get-get_or cfg.platform.banks i d low)) (after_at k piece got)
      (omega (arith, count, low))) inside

  -- so a range in a bank has none either
  out_with_bank : (range : ByteRange) (at : ℕ) → lies_in_a_bank cfg range ≡ true → All (λ bank. is_within bank at ≡ false) cfg.platform.banks
      → is_within range at ≡ false
  out_with_bank range at lies out =
      let r = any_got (λ bank. lies_in range bank) cfg.platform.banks lies in
      range_inside range r.1 at r.3 (found_out r.0 r.1 r.2)
    where
      found_out : (k : ℕ) (bank : ByteRange) → slice_get cfg.platform.banks k ≡ Some bank → is_within bank at ≡ false
      found_out k bank got =
          let o = got_fits (λ bank. is_within bank at ≡ false) cfg.platform.banks k out in subst (λ o. IfSome o (λ bank. is_within bank at ≡ false)) got o

  port_at : (k : ℕ) (port : PortPlace) → slice_get cfg.platform.ports k ≡ Some port → slice_get after_banks (suc (suc k)) ≡ Some (plain (port_range port.base))
  port_at k port got = map_got (λ port. plain (port_range port.base)) cfg.platform.ports k port got

  shmems_in_banks : All (λ shmem. lies_in_a_bank cfg shmem.range ≡ true) cfg.shmems
  shmems_in_banks =
      All-weaker (λ shmem. not (lies_in_a_bank cfg shmem.range) ≡ false) (λ shmem. lies_in_a_bank cfg shmem.range ≡ true)
      (λ shmem e. not-false (lies_in_a_bank cfg shmem.range) e) cfg.shmems
      (all_fail (λ shmem. not (lies_in_a_bank cfg shmem.range)) cfg.shmems (map_empty _ _ keeps.r6))

  module _ (v : ℕ) (vm : VmData) (is : IsVm cfg v vm) where
    regions_in_banks : All (λ region. lies_in_a_bank cfg region.range ≡ true) vm.regions
    regions_in_banks k d low =
        let nothing = none_in_each (λ (v, vm). regions_outside cfg v vm) (indexed cfg.vms) keeps.r12 v (v, vm) (indexed_got v cfg.vms vm is) in
        let region = get_or vm.regions k d in
        not-false (lies_in_a_bank cfg region.range)
        (none_passes (λ (j, region). not (lies_in_a_bank cfg region.range)) (indexed vm.regions) (map_empty _ _ nothing) k (k, region)
        (indexed_got k vm.regions region (slice_get-get_or vm.regions k d low)))

    regions_off_hypervisor : All (λ region. overlaps region.range cfg.hyp ≡ false) vm.regions
    regions_off_hypervisor k d low =
        let nothing = none_in_each (λ (v, vm). regions_of_the_hypervisor cfg v vm) (indexed cfg.vms) keeps.r13 v (v, vm) (indexed_got v cfg.vms vm is) in
        let region = get_or vm.regions k d in
        none_passes (λ (j, region). overlaps region.range cfg.hyp) (indexed vm.regions) (map_empty _ _ nothing) k (k, region)
        (indexed_got k vm.regions region (slice_get-get_or vm.regions k d low))

    -- a byte of a frame
    frame_absent : (k : ℕ) (range : ByteRange) (at : ℕ) → k < 2 → slice_get after_banks k ≡ Some (frame range) → is_within range at ≡ true
        → is_present (kind_at cfg vm at) ≡ false
    frame_absent k range at early got inside =
        absent cfg vm at
        (All-weaker (λ region. lies_in_a_bank cfg region.range ≡ true) (λ region. is_within region.range at ≡ false)
        (λ region lies. out_with_bank region.range at lies out) vm.regions regions_in_banks)
        ports_out
        (All-weaker (λ shmem. lies_in_a_bank cfg shmem.range ≡ true) (λ shmem. is_within shmem.range at ≡ false)
        (λ shmem lies. out_with_bank shmem.range at lies out) cfg.shmems shmems_in_banks)
      where
        margin : is_within (frame range).with_margin at ≡ true
        margin = with_margin range at inside

        out : All (λ bank. is_within bank at ≡ false) cfg.platform.banks
        out = banks_leave_out k (frame range) at got margin

        ports_out : All (λ port. is_within (port_range port.base) at ≡ false) cfg.platform.ports
        ports_out i d low =
            let port = get_or cfg.platform.ports i d in
            range_apart_too (frame range).with_margin (port_range port.base) at
            (pieces_apart (length banks + k) (length banks + suc (suc i)) (frame range) (plain (port_range port.base)) (after_at k (frame range) got)
            (after_at (suc (suc i)) (plain (port_range port.base)) (port_at i port (slice_get-get_or cfg.platform.ports i d low))) (omega arith)) margin

    -- a byte of the hypervisor
    hyp_absent : (at : ℕ) → is_within cfg.hyp at ≡ true → is_present (kind_at cfg vm at) ≡ false
    hyp_absent at inside =
        absent cfg vm at
        (All-weaker (λ region. overlaps region.range cfg.hyp ≡ false) (λ region. is_within region.range at ≡ false)
        (λ region apart. range_apart region.range cfg.hyp at apart inside) vm.regions regions_off_hypervisor)
        ports_out
        (All-weaker (λ shmem. overlaps shmem.range cfg.hyp ≡ false) (λ shmem. is_within shmem.range at ≡ false)
        (λ shmem apart. range_apart shmem.range cfg.hyp at apart inside) cfg.shmems
        (all_fail (λ shmem. overlaps shmem.range cfg.hyp) cfg.shmems (map_empty _ _ keeps.r7)))
      where
        in_bank : (b : Bool) → lies_in_a_bank cfg cfg.hyp ≡ b → lies_in_a_bank cfg cfg.hyp ≡ true
        in_bank true e = e
        in_bank false e = let kept = rw e at keeps.r5 in cc

        bank : (place : ℕ) × (bank : ByteRange) × (slice_get cfg.platform.banks place ≡ Some bank) × (lies_in cfg.hyp bank ≡ true)
        bank = any_got (λ bank. lies_in cfg.hyp bank) cfg.platform.banks (in_bank (lies_in_a_bank cfg cfg.hyp) refl)

        ports_out : All (λ port. is_within (port_range port.base) at ≡ false) cfg.platform.ports
        ports_out i d low =
            let port = get_or cfg.platform.ports i d in
            let count : length banks ≡ length cfg.platform.banks = length-map cfg.platform.banks plain in
            let within = slice_get_within cfg.platform.banks bank.0 bank.1 bank.2 in
            range_apart_too bank.1 (port_range port.base) at
            (pieces_apart bank.0 (length banks + suc (suc i)) (plain bank.1) (plain (port_range port.base)) (bank_at bank.0 bank.1 bank.2)
            (after_at (suc (suc i)) (plain (port_range port.base)) (port_at i port (slice_get-get_or cfg.platform.ports i d low))) (omega (arith, count, within)))
            (range_has cfg.hyp bank.1 at bank.3 inside)

pub hypervisor_absent : HypervisorAbsent
hypervisor_absent cfg v vm at well_formed is inside = hyp_absent cfg (kept cfg well_formed) v vm is at inside

pub frames_absent : FramesAbsent
frames_absent cfg v vm at well_formed is (inl inside) = frame_absent cfg (kept cfg well_formed) v vm is 0 (distributor cfg) at (omega arith) refl inside
frames_absent cfg v vm at well_formed is (inr inside) = frame_absent cfg (kept cfg well_formed) v vm is 1 (redistributors cfg) at (omega arith) refl inside
