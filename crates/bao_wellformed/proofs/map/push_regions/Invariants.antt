use Rattle.std.proofs.Common.{◌≡◌, ◌+◌, ◌≤◌, ◌++◌, length, map, take}
use Rattle.bao_wellformed.specs.Map.{region_entry}
use Rattle.bao_wellformed.proofs.map.push_regions.Given as goal

abbrev pub invariant-loop-region : goal.invariant-loop-region
invariant-loop-region l =
    record {
      items : l.entries.items ≡ l.initial.entries.items ++ map region_entry (take l.region-index l.regions);
      room : length l.entries.items ≤ length l.initial.entries.items + l.region-index;
    }
