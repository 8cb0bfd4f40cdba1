-- The runs of a core are those of the one list, since no byte outside the address space is the core's.
use Rattle.std.proofs.Common.{◌≡◌, ℕ, ◌≤◌, false, List, [], ◌∷◌, find, map, length, reverse, All, Option, None, Some, refl, sym, subst, ap, ◌∙◌, arith}
use Rattle.std.proofs.lemmas.Bool.Decides.{nat_tests}
use Rattle.std.proofs.lemmas.List.Elements.{All-head, All-tail}
use Rattle.bao_types.specs.declared.access.Class.TheVariants.{Nothing}
use Rattle.bao_types.specs.ByteRange.{address_space_end, end, is_within}
use Rattle.bao_config.specs.Data.{ConfigData, VmData}
use Rattle.bao_wellformed.specs.declared.map.MapEntry.{MapEntry}
use Rattle.bao_wellformed.specs.Map.{class_of, grant, guest_class, has_core, kind_of, map_of, owner}
use Rattle.bao_wellformed.specs.WellFormed.{IsWellFormed}
use Rattle.bao_wellformed.proofs.Bytes.{all_reversed}
use Rattle.bao_wellformed.proofs.Places.{maps_in_space, hypervisor_in_space}
use Rattle.mpu_packer.specs.declared.entries.Plan.{Plan}
use Rattle.mpu_packer.specs.Packing.{entry_of}
use Rattle.mpu_packer.specs.Plan.{IsPacking, HasTooMany}
use Rattle.mpu_packer.specs.Runs.{core_runs, packing_of}
use Rattle.mpu_packer.proofs.OneList.{has_one_list}
use Rattle.mpu_packer.proofs.Owners.{found_got}

EndsInSpace : MapEntry → Type 0
EndsInSpace entry = end entry.range ≤ address_space_end

module _ (cfg : ConfigData) (core at : ℕ) (well_formed : IsWellFormed cfg) (above : address_space_end ≤ at) where
  none_covers : (entries : List MapEntry) → All EndsInSpace entries → grant (kind_of (find (λ entry. is_within entry.range at) entries)) ≡ Nothing
  unfolding EndsInSpace
  none_covers [] in_space = refl
  none_covers (entry ∷ entries) in_space =
      let low = All-head EndsInSpace entry entries in_space in
      let outside : is_within entry.range at ≡ false = grind (arith, nat_tests) in
      rw outside (none_covers entries (All-tail EndsInSpace entry entries in_space))

  of_guest : (o : Option VmData) → owner cfg core ≡ o → guest_class cfg o at ≡ Nothing
  unfolding EndsInSpace
  of_guest None e = refl
  of_guest (Some vm) e =
      let place = found_got (has_core core) cfg.vms vm e in
      none_covers (reverse (map_of cfg vm)) (all_reversed EndsInSpace (map_of cfg vm) (maps_in_space cfg place.0 vm well_formed place.1))

  pub beyond_space : class_of cfg core at ≡ Nothing
  beyond_space =
      let low = hypervisor_in_space cfg well_formed in
      let outside : is_within cfg.hyp at ≡ false = grind (arith, nat_tests) in
      rw outside (of_guest (owner cfg core) refl)

module _ (cfg : ConfigData) (core : ℕ) (well_formed : IsWellFormed cfg) where
  pub packing_is : (plan : Plan) → IsPacking cfg core plan → plan.entries.items ≡ packing_of cfg core
  packing_is plan packing =
      packing.entries
      ∙ ap (map entry_of) (has_one_list (class_of cfg core) packing.runs packing.maximal (λ at above. beyond_space cfg core at well_formed above))

  pub count_is : (count most : ℕ) → HasTooMany cfg core count most → count ≡ length (core_runs cfg core)
  count_is count most many =
      sym many.counted ∙ ap length (has_one_list (class_of cfg core) many.runs many.maximal (λ at above. beyond_space cfg core at well_formed above))

  pub runs_fit : (plan : Plan) (packing : IsPacking cfg core plan) → length (core_runs cfg core) ≤ packing.most
  runs_fit plan packing =
      subst (λ runs. length runs ≤ packing.most)
      (has_one_list (class_of cfg core) packing.runs packing.maximal (λ at above. beyond_space cfg core at well_formed above)) packing.fits
