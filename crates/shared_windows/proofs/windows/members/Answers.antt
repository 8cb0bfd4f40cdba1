use Rattle.std.proofs.Common.{◌≡◌, ◌≤◌, ◌∙◌, ◌+◌, ◌&&◌, ℕ, ◌==◌, not, Bool, false, length, sym, ap, subst, arith, bit_or}
use Rattle.std.specs.Option.{option_map_or}
use Rattle.std.specs.List.{list_any}
use Rattle.std.proofs.lemmas.Option.{slice_get_past}
use Rattle.bao_config.specs.Config.{config_data}
use Rattle.bao_config.specs.Data.{ConfigData}
use Rattle.shared_windows.specs.Windows.{is_member, is_on}
use Rattle.shared_windows.proofs.Masks.{IsMask, bit_left, bit_set, mask_whole, shifted}
use Rattle.shared_windows.proofs.windows.members.Goals as goal
use Rattle.shared_windows.proofs.windows.members.Goals.{then-is_member, else-is_member}

pub loop-v-preserved : goal.loop-v-preserved
loop-v-preserved c =
    let test : ℕ → Bool = is_member (config_data c.args.config.now) c.args.shmem c.args.caller in
    let v = c.loop-v.v in
    let mask = c.loop-v.mask in
    elim c.if-is_member.branch [
      | then-is_member w ↦
          subst (IsMask test (v + 1)) (sym (w.mask-is ∙ ap (bit_or mask) (shifted v c.loop-v-test.true)))
          (bit_set test v mask c.loop-v.invariant (sym c.is_member.ensures ∙ w.if-is_member.true))
      | else-is_member w ↦
          subst (IsMask test (v + 1)) (sym w.mask-is)
          (bit_left test v mask c.loop-v.invariant (sym c.is_member.ensures ∙ w.if-is_member.false))
    ]

-- there is no VM from the eighth place on
no_more : (cfg : ConfigData) (shmem caller v : ℕ) → length cfg.vms ≤ v → is_member cfg shmem caller v ≡ false
no_more cfg shmem caller v past =
    ap (λ o. not (v == caller) && option_map_or (λ vm. list_any (is_on shmem) vm.ipcs) o false) (slice_get_past cfg.vms v past)
    ∙ never (not (v == caller))
  where
    never : (b : Bool) → (b && false) ≡ false
    never b = grind arith

pub returns : goal.returns
returns c =
    let cfg = config_data c.args.config.now in
    let test : ℕ → Bool = is_member cfg c.args.shmem c.args.caller in
    let most = c.args.config.now.fits.vms.short_enough in
    mask_whole test c.loop-v.v c.loop-v.mask c.loop-v.invariant
    (λ v past. no_more cfg c.args.shmem c.args.caller v (let end = c.loop-v-test.false in omega (arith, most, end, past)))
