-- The entries of a plan give a guest memory in use and ports alone, and have no bit outside their fields.
use Rattle.std.proofs.Common.{◌≡◌, ℕ, zero, suc, ◌-◌, ◌<◌, ◌≤◌, ◌^◌, Bool, true, false, cond, ◌&&◌, ◌⊎◌, inl, inr, List, [], ◌∷◌, filter, find, reverse, get_or, slice_get, All, Option, Some, None, refl, subst, sym, ap, ◌∙◌, arith}
use Rattle.std.specs.Prelude.{IsTrue, if◌then◌else◌}
use Rattle.std.proofs.lemmas.Bool.{cases_lt, eq-eqb, false≢true}
use Rattle.std.proofs.lemmas.Bool.Decides.{nat_tests}
use Rattle.std.proofs.lemmas.List.Elements.{All-cons, All-head, All-map, All-nil, All-tail, All-weaker}
use Rattle.std.proofs.lemmas.Option.{slice_get-get_or}
use Rattle.bao_types.specs.declared.access.Class.{Class}
use Rattle.bao_types.specs.declared.access.Class.TheVariants.{Nothing, Hyp, Guest}
use Rattle.bao_types.specs.declared.region.Region.{Region}
use Rattle.bao_types.specs.Bits.{field}
use Rattle.bao_types.specs.ByteRange.{end, is_within}
use Rattle.bao_types.specs.Region.{IsWithinMasks, access_permission, covers, is_execute_never, is_match, matching_regions}
use Rattle.bao_types.proofs.Ranges.{is_within-between}
use Rattle.bao_config.specs.Data.{ConfigData, VmData}
use Rattle.bao_config.specs.Fits.{ConfigFits}
use Rattle.bao_wellformed.specs.declared.map.Kind.{Kind}
use Rattle.bao_wellformed.specs.declared.map.Kind.TheVariants.{Ram, Port, Window, Hole}
use Rattle.bao_wellformed.specs.declared.map.MapEntry.{MapEntry}
use Rattle.bao_wellformed.specs.Map.{class_of, grant, guest_class, has_core, kind_at, kind_of, map_of, owner}
use Rattle.bao_wellformed.specs.WellFormed.{IsWellFormed}
use Rattle.bao_wellformed.proofs.Bytes.{all_reversed}
use Rattle.bao_wellformed.proofs.Empty.{none_passes}
use Rattle.bao_wellformed.proofs.Places.{hypervisor_in_space, maps_in_space}
use Rattle.region_list.specs.declared.run.Run.{Run}
use Rattle.region_list.specs.Layers.{AreInSpace, IsInSpace}
use Rattle.region_list.specs.Runs.{AreRunsFrom, IsMaximalRun}
use Rattle.board.specs.Ports.{is_port}
use Rattle.board.specs.Machine.{IsSafeEntry, is_used, port_places}
use Rattle.mpu_packer.specs.declared.entries.Plan.{Plan}
use Rattle.mpu_packer.specs.Packing.{HasBits, IsRealised, Realises, entry_of}
use Rattle.mpu_packer.specs.Plan.{IsPacking}
use Rattle.mpu_packer.proofs.Granules.{all_aligned}
use Rattle.mpu_packer.proofs.Owners.{class_granular}
use Rattle.hypervisor.specs.Shape.{shape_of}
use Rattle.vm_create.proofs.Backed.{IsBackedAs, backed}
use Rattle.vm_create.proofs.EntryBits.{within_masks}

-- the only one that passes is the one that was kept
one_passes : {A : Type 0} (p : A → Bool) (xs : List A) (kept : A) → filter p xs ≡ kept ∷ [] → (k : ℕ) (x : A) → slice_get xs k ≡ Some x
    → p x ≡ true → kept ≡ x
one_passes p [] kept e k x got yes' = cc
one_passes {A} p (y ∷ ys) kept e k x got yes' = by_test (p y) refl e k got (λ rest k got. one_passes p ys kept rest k x got yes')
  where
    by_test : (b : Bool) → p y ≡ b → cond b (y ∷ filter p ys) (filter p ys) ≡ kept ∷ [] → (k : ℕ) → slice_get (y ∷ ys) k ≡ Some x
        → (filter p ys ≡ kept ∷ [] → (k : ℕ) → slice_get ys k ≡ Some x → kept ≡ x) → kept ≡ x
    by_test true t e zero got rest = cc
    by_test true t e (suc k) got rest =
        let others : filter p ys ≡ [] = cc in absurd (false≢true (sym (none_passes p ys others k x got) ∙ yes'))
    by_test false t e zero got rest = let same : y ≡ x = cc in absurd (false≢true (sym t ∙ ap p same ∙ yes'))
    by_test false t e (suc k) got rest = rest e k got

-- the first that passes stands at a place
found_got : {A : Type 0} (p : A → Bool) (xs : List A) (x : A) → find p xs ≡ Some x → (place : ℕ) × (slice_get xs place ≡ Some x)
found_got p [] x e = cc
found_got {A} p (y ∷ ys) x e = by_test (p y) e (found_got p ys x)
  where
    by_test : (b : Bool) → cond b (Some y) (find p ys) ≡ Some x → (find p ys ≡ Some x → (place : ℕ) × (slice_get ys place ≡ Some x))
        → (place : ℕ) × (slice_get (y ∷ ys) place ≡ Some x)
    by_test true e rest = (0, e)
    by_test false e rest = let r = rest e in (suc r.0, r.1)

none_found : {A : Type 0} (p : A → Bool) (xs : List A) → All (λ x. p x ≡ false) xs → find p xs ≡ None
none_found p [] all = refl
none_found p (x ∷ xs) all =
    ap (λ b. cond b (Some x) (find p xs)) (All-head (λ x. p x ≡ false) x xs all) ∙ none_found p xs (All-tail (λ x. p x ≡ false) x xs all)

module _ (cfg : ConfigData) (core : ℕ) (well_formed : IsWellFormed cfg) where
  -- no byte beyond the address space is in a map
  nothing_beyond : (at : ℕ) → 2 ^ 48 ≤ at → class_of cfg core at ≡ Nothing
  nothing_beyond at beyond =
      let low = hypervisor_in_space cfg well_formed in
      let outside : is_within cfg.hyp at ≡ false = grind (arith, nat_tests) in
      ap (λ b. if b then Hyp else guest_class cfg (owner cfg core) at) outside ∙ of_guest (owner cfg core) refl
    where
      beyond_range : (entry : MapEntry) → end entry.range ≤ 2 ^ 48 → is_within entry.range at ≡ false
      beyond_range entry low = grind (arith, nat_tests)

      of_guest : (o : Option VmData) → owner cfg core ≡ o → guest_class cfg o at ≡ Nothing
      of_guest None e = refl
      of_guest (Some vm) e =
          let place = found_got (has_core core) cfg.vms vm e in
          let outside = All-weaker (λ (entry : MapEntry). end entry.range ≤ 2 ^ 48) (λ (entry : MapEntry). is_within entry.range at ≡ false)
          beyond_range (map_of cfg vm) (maps_in_space cfg place.0 vm well_formed place.1) in
          ap (λ found. grant (kind_of found))
          (none_found (λ entry. is_within entry.range at) (reverse (map_of cfg vm))
          (all_reversed (λ (entry : MapEntry). is_within entry.range at ≡ false) (map_of cfg vm) outside))

  run_in_space : (run : Run) → IsMaximalRun (class_of cfg core) run → IsInSpace run.range
  run_in_space run maximal = by_order (cases_lt (2 ^ 48) (end run.range))
    where
      by_order : (2 ^ 48 < end run.range) ⊎ (end run.range ≤ 2 ^ 48) → IsInSpace run.range
      by_order (inr low) = low
      by_order (inl high) =
          let more = maximal.not_empty in
          let last : is_within run.range (end run.range - 1) ≡ true = is_within-between run.range (end run.range - 1) (omega (arith, more)) (omega (arith, more)) in
          absurd (maximal.not_nothing (sym (maximal.equal (end run.range - 1) last) ∙ nothing_beyond (end run.range - 1) (omega (arith, high))))

  runs_in_space : (runs : List Run) (low : ℕ) → AreRunsFrom (class_of cfg core) low runs → AreInSpace runs
  runs_in_space [] low none = All-nil (λ run. IsInSpace run.range)
  runs_in_space (run ∷ runs) low (maximal, from, between, rest) =
      All-cons (λ run. IsInSpace run.range) run runs (run_in_space run maximal) (runs_in_space runs (end run.range) rest)

  pub plan_within_masks : (plan : Plan) → ConfigFits cfg → IsPacking cfg core plan → All IsWithinMasks plan.entries.items
  plan_within_masks plan fits packing =
      let aligned = all_aligned (class_of cfg core) (class_granular cfg core fits) packing.runs 0 packing.maximal in
      let in_space = runs_in_space packing.runs 0 packing.maximal in
      subst (All IsWithinMasks) (sym packing.entries)
      (All-map IsWithinMasks entry_of packing.runs
      (λ k d low. within_masks (get_or packing.runs k d) (aligned k d low) (in_space k d low)))

module _ (cfg : ConfigData) (core events : ℕ) where
  abbrev IsOpen : Region → ℕ → Type 0
  IsOpen entry at =
      IsTrue (is_used (shape_of cfg events) at) ⊎ (IsTrue (is_port (port_places (shape_of cfg events).ports) at) × IsTrue (is_execute_never entry))

  module _ (entry : Region) (at : ℕ) (write exec port : Bool) (bits : HasBits entry (Guest write exec port)) where
    by_kind : (kind : Kind) → IsBackedAs cfg events at kind → grant kind ≡ Guest write exec port → IsOpen entry at
    by_kind (Ram w x) back same = inl back
    by_kind (Window shmem w) back same = inl back
    by_kind Hole back same = cc
    by_kind (Port id) back same =
        let never : exec ≡ false = cc in
        inr (back, eq-eqb (field entry.base 1 1) 1 (bits.execute_never ∙ ap (λ b. if b then 0 else 1) never))

    by_owner : (o : Option VmData) → owner cfg core ≡ o → guest_class cfg o at ≡ Guest write exec port → IsOpen entry at
    by_owner None e same = cc
    by_owner (Some vm) e same =
        let place = found_got (has_core core) cfg.vms vm e in
        by_kind (kind_at cfg vm at) (backed cfg events at place.0 vm place.1) same

    by_hyp : (b : Bool) → (if b then Hyp else guest_class cfg (owner cfg core) at) ≡ Guest write exec port → IsOpen entry at
    by_hyp true same = cc
    by_hyp false same = by_owner (owner cfg core) refl same

  module _ (entries : List Region) (k : ℕ) (entry : Region) (got : slice_get entries k ≡ Some entry) (at : ℕ) (matches : is_match entry at ≡ true)
      (for_guest : (access_permission entry ≡ 1) ⊎ (access_permission entry ≡ 3)) where
    not_for_hyp : access_permission entry ≡ 0 → (access_permission entry ≡ 1) ⊎ (access_permission entry ≡ 3) → ⊥
    not_for_hyp zero' (inl one) = omega (arith, zero', one)
    not_for_hyp zero' (inr three) = omega (arith, zero', three)

    by_class : (class : Class) → class_of cfg core at ≡ class → IsRealised class (matching_regions entries at) → IsOpen entry at
    by_class Nothing is none =
        absurd (false≢true (sym (none_passes (λ region. is_match region at) entries none k entry got) ∙ matches))
    by_class Hyp is (kept, one, bits) =
        let same = one_passes (λ region. is_match region at) entries kept one k entry got matches in
        absurd (not_for_hyp (ap access_permission (sym same) ∙ bits.permission) for_guest)
    by_class (Guest write exec port) is (kept, one, bits) =
        let same = one_passes (λ region. is_match region at) entries kept one k entry got matches in
        by_hyp entry at write exec port (subst (λ region. HasBits region (Guest write exec port)) same bits) (is_within cfg.hyp at) is

  pub plan_is_safe : (entries : List Region) → Realises entries (class_of cfg core) → All (IsSafeEntry (shape_of cfg events)) entries
  plan_is_safe entries realises k d low enabled for_guest at covered =
      let entry = get_or entries k d in
      by_class entries k entry (slice_get-get_or entries k d low) at
      (ap (λ b. b && covers entry at) enabled ∙ covered) for_guest (class_of cfg core at) refl (realises at)
