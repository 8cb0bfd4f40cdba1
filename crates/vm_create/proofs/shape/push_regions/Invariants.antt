use Rattle.std.proofs.Common.{◌≡◌, ◌+◌, ◌++◌, length, map, take}
use Rattle.vm_create.proofs.shape.push_regions.Given as goal

abbrev pub invariant-loop-region : goal.invariant-loop-region
invariant-loop-region l =
    record {
      items : l.used.items ≡ l.initial.used.items ++ map (λ region. region.range) (take l.region-index l.regions);
      len : length l.used.items ≡ length l.initial.used.items + l.region-index;
    }
