use Rattle.std.proofs.Common.{◌≡◌, ℕ, not, drop, filter}
use Rattle.std.specs.List.{enumerate_from}
use Rattle.bao_config.specs.Config.{config_data}
use Rattle.bao_config.specs.declared.config.MapRegion.{MapRegion}
use Rattle.bao_wellformed.specs.Rules.{lies_in_a_bank}
use Rattle.bao_wellformed.proofs.vm_rules.RegionsInBanksVmRule.first_break.Given as goal

abbrev pub invariant-loop-item : goal.invariant-loop-item
invariant-loop-item l =
    let is_broken : ℕ × MapRegion → _ = λ (j, region). not (lies_in_a_bank (config_data l.config) region.range) in
    filter is_broken (enumerate_from l.item (drop l.item l.region-items))
    ≡ filter is_broken (enumerate_from 0 l.vm.regions.items)
