-- What rules 11, 15, 20 to 22 say of VMs and bytes.
use Rattle.std.proofs.Common.{◌≡◌, ℕ, ◌<◌, ◌==◌, Bool, true, false, not, ◌&&◌, ◌⊎◌, inl, inr, List, ◌++◌, suc, Option, Some, None, refl, sym, subst, ap, ◌∙◌}
use Rattle.std.proofs.lemmas.Bool.{or_parts, eqb-true, cases_order}
use Rattle.std.proofs.lemmas.List.Folds.{list_any-append}
use Rattle.bao_config.specs.Data.{ConfigData, VmData}
use Rattle.bao_wellformed.specs.declared.ill.Ill.{Ill}
use Rattle.bao_wellformed.specs.Break.{pairs, indexed}
use Rattle.bao_wellformed.specs.declared.map.MapEntry.{MapEntry}
use Rattle.bao_wellformed.specs.Map.{map_of, kind_at}
use Rattle.bao_wellformed.specs.ByteRules.{bounds_of, clashes, is_clash, is_one_shmem, is_present, kind_in, least_clash, shmem_of}
use Rattle.bao_wellformed.specs.Laws.{IsLeast, IsVm, MapsApart}
use Rattle.bao_wellformed.proofs.Bytes.{kind_changes}
use Rattle.bao_wellformed.proofs.Empty.{indexed_got, is_pair, none_in_each, option_empty}
use Rattle.bao_wellformed.proofs.Kept.{IsKept, kept}
use Rattle.bao_wellformed.proofs.Least.{ChangesOnlyAt, is_listed, least_of_all}

-- a clash of two maps changes only at bounds of one of them
pub clash_changes : (ones others : List MapEntry)
    → ChangesOnlyAt (bounds_of ones ++ bounds_of others) (λ at. is_clash (kind_in ones at) (kind_in others at))
clash_changes ones others at unlisted =
    let two = or_parts (is_listed (bounds_of ones) (suc at)) (is_listed (bounds_of others) (suc at))
    (sym (list_any-append (λ byte. byte == suc at) (bounds_of ones) (bounds_of others)) ∙ unlisted) in
    ap (λ kind. is_clash kind (kind_in others (suc at))) (kind_changes ones at two.0) ∙ ap (is_clash (kind_in ones at)) (kind_changes others at two.1)

no_clash : (one other : Bool) (same : Bool) → (one && other && not same) ≡ false → one ≡ true → other ≡ true → same ≡ true
no_clash one other true e a b = refl
no_clash true true false e a b = cc
no_clash true false false e a b = cc
no_clash false other false e a b = cc

one_shmem : (one other : Option ℕ) → is_one_shmem one other ≡ true → (shmem : ℕ) × (one ≡ Some shmem) × (other ≡ Some shmem)
one_shmem None other e = cc
one_shmem (Some one) None e = cc
one_shmem (Some one) (Some other) e = (one, refl, ap Some (sym (eqb-true one other e)))

module _ (cfg : ConfigData) (keeps : IsKept cfg) where
  abbrev of_two : (ℕ × VmData) × (ℕ × VmData) → List Ill
  of_two (one, other) = clashes cfg one.0 one.1 other.0 other.1

  no_clash_at : (v w : ℕ) (vm other : VmData) → IsVm cfg v vm → IsVm cfg w other → v < w → (at : ℕ)
      → is_clash (kind_at cfg vm at) (kind_at cfg other at) ≡ false
  no_clash_at v w vm other one two less =
      let pair = is_pair (indexed cfg.vms) v w (v, vm) (w, other) (indexed_got v cfg.vms vm one) (indexed_got w cfg.vms other two) less in
      let nothing = none_in_each of_two (pairs (indexed cfg.vms)) keeps.r22 pair.place ((v, vm), (w, other)) pair.got in
      let none : least_clash (map_of cfg vm) (map_of cfg other) ≡ None = option_empty _ (least_clash (map_of cfg vm) (map_of cfg other)) nothing in
      subst (IsLeast (λ at. is_clash (kind_in (map_of cfg vm) at) (kind_in (map_of cfg other) at))) none
      (least_of_all (λ at. is_clash (kind_in (map_of cfg vm) at) (kind_in (map_of cfg other) at))
      (bounds_of (map_of cfg vm) ++ bounds_of (map_of cfg other)) (clash_changes (map_of cfg vm) (map_of cfg other)))

  window_of_both : (v w : ℕ) (vm other : VmData) → IsVm cfg v vm → IsVm cfg w other → v < w → (at : ℕ)
      → is_present (kind_at cfg vm at) ≡ true → is_present (kind_at cfg other at) ≡ true
      → (shmem : ℕ) × (shmem_of (kind_at cfg vm at) ≡ Some shmem) × (shmem_of (kind_at cfg other at) ≡ Some shmem)
  window_of_both v w vm other one two less at here there =
      one_shmem (shmem_of (kind_at cfg vm at)) (shmem_of (kind_at cfg other at))
      (no_clash (is_present (kind_at cfg vm at)) (is_present (kind_at cfg other at))
      (is_one_shmem (shmem_of (kind_at cfg vm at)) (shmem_of (kind_at cfg other at))) (no_clash_at v w vm other one two less at) here there)

pub maps_apart : MapsApart
maps_apart cfg v w vm other at well_formed differ one two here there = by_order (cases_order v w)
  where
    by_order : (v ≡ w) ⊎ ((v < w) ⊎ (w < v))
        → (shmem : ℕ) × (shmem_of (kind_at cfg vm at) ≡ Some shmem) × (shmem_of (kind_at cfg other at) ≡ Some shmem)
    by_order (inl same) = absurd (differ same)
    by_order (inr (inl less)) = window_of_both cfg (kept cfg well_formed) v w vm other one two less at here there
    by_order (inr (inr more)) =
        let r = window_of_both cfg (kept cfg well_formed) w v other vm two one more at there here in (r.0, r.2, r.1)
