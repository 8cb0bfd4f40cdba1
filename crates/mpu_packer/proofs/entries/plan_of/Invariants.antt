use Rattle.std.proofs.Common.{◌≡◌, length, map, take}
use Rattle.region_list.specs.declared.run.Run.{Run}
use Rattle.mpu_packer.specs.Packing.{entry_of}
use Rattle.mpu_packer.proofs.entries.plan_of.Given as goal

abbrev pub invariant-loop-run : goal.invariant-loop-run
invariant-loop-run l =
    record {
      entries : l.entries.items ≡ map entry_of (take l.run-index l.runs);
      starts : l.starts.items ≡ map (λ (run : Run). run.range.base) (take l.run-index l.runs);
      count : length l.entries.items ≡ l.run-index;
      same : length l.starts.items ≡ l.run-index;
    }
