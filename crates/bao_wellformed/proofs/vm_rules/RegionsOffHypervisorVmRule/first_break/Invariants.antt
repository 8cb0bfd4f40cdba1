use Rattle.std.proofs.Common.{◌≡◌, ℕ, drop, filter}
use Rattle.std.specs.List.{enumerate_from}
use Rattle.bao_config.specs.declared.config.MapRegion.{MapRegion}
use Rattle.bao_types.specs.ByteRange.{overlaps}
use Rattle.bao_wellformed.proofs.vm_rules.RegionsOffHypervisorVmRule.first_break.Given as goal

abbrev pub invariant-loop-item : goal.invariant-loop-item
invariant-loop-item l =
    let is_broken : ℕ × MapRegion → _ = λ (j, region). overlaps region.range l.config.hyp in
    filter is_broken (enumerate_from l.item (drop l.item l.region-items))
    ≡ filter is_broken (enumerate_from 0 l.vm.regions.items)
