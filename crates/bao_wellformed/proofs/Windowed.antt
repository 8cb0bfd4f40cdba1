-- The windows of a well-formed configuration, by rules 16 to 18.
use Rattle.std.proofs.Common.{◌≡◌, ℕ, ◌<◌, ◌==◌, Bool, true, false, not, ◌⊎◌, inl, inr, slice_get, length, Some, refl, sym, ap, ◌∙◌, nat_le, arith}
use Rattle.std.proofs.lemmas.Bool.{cases_order, eq-eqb}
use Rattle.std.proofs.lemmas.Bool.Decides.{nat_tests}
use Rattle.bao_config.specs.declared.config.Shmem.{Shmem}
use Rattle.bao_config.specs.Data.{ConfigData, IpcData}
use Rattle.bao_wellformed.specs.declared.claim.Claim.{Claim}
use Rattle.bao_wellformed.specs.declared.claim.Claimed.TheVariants.{Shmems}
use Rattle.bao_wellformed.specs.Break.{indexed, pairs}
use Rattle.bao_wellformed.specs.Claims.{claims}
use Rattle.bao_wellformed.specs.Rules.{are_one_in_vm, ipcs_without_irqs, ipcs_without_shmem, lacks_irqs}
use Rattle.bao_wellformed.specs.Windows.{IsWindow, WindowsSound}
use Rattle.bao_wellformed.proofs.Empty.{indexed_got, is_pair, map_empty, map_got, none_in_each, none_passes}
use Rattle.bao_wellformed.proofs.Kept.{IsKept, kept}
use Rattle.bao_wellformed.proofs.Once.{claim, claim_got}

module _ (cfg : ConfigData) (keeps : IsKept cfg) where
  window_named : (v place : ℕ) (window : IpcData) → IsWindow cfg v place window → window.shmem < length cfg.shmems
  window_named v place window is =
      let in_vm = none_in_each (λ (v, vm). ipcs_without_shmem cfg v vm) (indexed cfg.vms) keeps.r16 v (v, is.vm)
      (indexed_got v cfg.vms is.vm is.is_vm) in
      let test : ℕ × IpcData → Bool = λ (j, ipc). nat_le (length cfg.shmems) ipc.shmem in
      let no : nat_le (length cfg.shmems) window.shmem ≡ false =
      none_passes test (indexed is.vm.ipcs) (map_empty _ _ in_vm) place (place, window)
      (indexed_got place is.vm.ipcs window is.has) in
      grind (arith, nat_tests)

  window_numbered : (v place : ℕ) (window : IpcData) (shmem : Shmem) → IsWindow cfg v place window
      → slice_get cfg.shmems window.shmem ≡ Some shmem → length window.irqs ≡ shmem.events
  window_numbered v place window shmem is there =
      let in_vm = none_in_each (λ (v, vm). ipcs_without_irqs cfg v vm) (indexed cfg.vms) keeps.r18 v (v, is.vm)
      (indexed_got v cfg.vms is.vm is.is_vm) in
      let test : ℕ × IpcData → Bool = λ (j, ipc). lacks_irqs (slice_get cfg.shmems ipc.shmem) ipc in
      let no = none_passes test (indexed is.vm.ipcs) (map_empty _ _ in_vm) place (place, window)
      (indexed_got place is.vm.ipcs window is.has) in
      let said : not (length window.irqs == shmem.events) ≡ false = sym (ap (λ o. lacks_irqs o window) there) ∙ no in
      grind (arith, nat_tests)

  abbrev place_claim : ℕ → ℕ → IpcData → Claim
  place_claim v place window = claim cfg Shmems v place window.shmem

  -- the claim stands at a place among all
  abbrev IsAt : ℕ → Claim → Type 0
  IsAt place own = slice_get (claims Shmems cfg) place ≡ Some own

  not_two : (p q : ℕ) (a b : Claim) → slice_get (claims Shmems cfg) p ≡ Some a → slice_get (claims Shmems cfg) q ≡ Some b
      → p < q → a.vm ≡ b.vm → a.number ≡ b.number → ⊥
  not_two p q a b at_p at_q less vms numbers =
      let test : Claim × Claim → Bool = λ (one, other). are_one_in_vm one other in
      let pair = is_pair (claims Shmems cfg) p q a b at_p at_q less in
      let no = none_passes test (pairs (claims Shmems cfg)) (map_empty _ _ keeps.r17) pair.place (a, b) pair.got in
      let yes : are_one_in_vm a b ≡ true = rw (eq-eqb a.vm b.vm vms) (eq-eqb a.number b.number numbers) in
      let x : true ≡ false = sym yes ∙ no in cc

  window_once : (v i j : ℕ) (one other : IpcData) → IsWindow cfg v i one → IsWindow cfg v j other → one.shmem ≡ other.shmem
      → i ≡ j
  window_once v i j one other is is_too same =
      by_claims
      (claim_got cfg Shmems v is.vm i one.shmem is.is_vm (map_got (λ ipc. ipc.shmem) is.vm.ipcs i one is.has))
      (claim_got cfg Shmems v is_too.vm j other.shmem is_too.is_vm (map_got (λ ipc. ipc.shmem) is_too.vm.ipcs j other is_too.has))
    where
      by_places : (p q : ℕ) → IsAt p (place_claim v i one) → IsAt q (place_claim v j other)
          → (p ≡ q) ⊎ ((p < q) ⊎ (q < p)) → i ≡ j
      by_places p q at_p at_q (inl e) =
          let both : Some (place_claim v i one) ≡ Some (place_claim v j other) =
          sym at_p ∙ ap (slice_get (claims Shmems cfg)) e ∙ at_q in
          let c : place_claim v i one ≡ place_claim v j other = cc in ap (λ (x : Claim). x.item) c
      by_places p q at_p at_q (inr (inl less)) =
          absurd (not_two p q (place_claim v i one) (place_claim v j other) at_p at_q less refl same)
      by_places p q at_p at_q (inr (inr more)) =
          absurd (not_two q p (place_claim v j other) (place_claim v i one) at_q at_p more refl (sym same))

      by_claims : (p : ℕ) × IsAt p (place_claim v i one) → (q : ℕ) × IsAt q (place_claim v j other) → i ≡ j
      by_claims (p, at_p) (q, at_q) = by_places p q at_p at_q (cases_order p q)

pub windows_sound : WindowsSound
windows_sound cfg well_formed =
    let keeps = kept cfg well_formed in
    record { named = window_named cfg keeps; once = window_once cfg keeps; numbered = window_numbered cfg keeps }
