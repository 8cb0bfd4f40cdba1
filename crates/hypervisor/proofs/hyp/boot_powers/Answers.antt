use Rattle.std.proofs.Common.{◌<◌, ℕ, List, [], ◌∷◌, ◌++◌, length, arith, ap, ◌∙◌, rules}
use Rattle.bao_config.specs.Data.{ConfigData}
use Rattle.bao_wellformed.specs.Checked.{checked_data}
use Rattle.bao_wellformed.specs.Map.{owner}
use Rattle.vm_model.specs.Boot.{boot_power, boot_powers}
use Rattle.hypervisor.proofs.Numbered.{one_more}
use Rattle.hypervisor.proofs.hyp.boot_powers.Goals as goal

pub loop-core-preserved : goal.loop-core-preserved
loop-core-preserved c =
    let cfg = checked_data c.args.checked.now in
    let core = c.loop-core.core in
    let cores = c.as_slice-items.ensures.value in
    let whole = ap (λ (cfg : ConfigData). cfg.platform.cores) c.config-config.ensures in
    let low : core < length cfg.platform.cores = omega (arith, ap (λ (xs : List ℕ). length xs) cores, ap (λ (xs : List ℕ). length xs) whole, c.loop-core-test.true) in
    record {
      powers = one_more (λ place. boot_power (owner cfg place.0) place.0) cfg.platform.cores core 0 c.loop-core.powers.items c.push.new.self.items
          (boot_powers cfg) low c.loop-core.invariant.powers
          (c.push.ensures.items
          ∙ ap (λ power. c.loop-core.powers.items ++ power ∷ [])
          (c.boot_power.ensures ∙ ap (λ (cfg : ConfigData). boot_power (owner cfg core) core) c.config-config.ensures));
      len = search rules;
    }
