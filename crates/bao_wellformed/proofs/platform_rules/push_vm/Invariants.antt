use Rattle.std.proofs.Common.{◌≡◌, ◌++◌, ◌∷◌, map, take}
use Rattle.bao_config.specs.declared.config.MapRegion.{MapRegion}
use Rattle.bao_wellformed.proofs.platform_rules.push_vm.Given as goal

abbrev pub invariant-loop-region : goal.invariant-loop-region
invariant-loop-region l = l.ranges.items ≡ l.fn.ranges.items ++ l.vm.place ∷ map (λ (region : MapRegion). region.range) (take l.region-index l.region-items)
