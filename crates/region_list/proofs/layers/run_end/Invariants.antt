use Rattle.std.proofs.Common.{◌≡◌, ◌-◌, ◌^◌, ◌<◌, ◌≤◌, ℕ}
use Rattle.region_list.specs.Layers.{class_in}
use Rattle.region_list.proofs.layers.run_end.Given as goal

abbrev pub invariant-loop-end : goal.invariant-loop-end
invariant-loop-end l =
    record {
      above : l.at < l.end;
      in_space : l.end ≤ 2 ^ 48;
      equal : (byte : ℕ) → l.at ≤ byte → byte < l.end → class_in l.layers byte ≡ class_in l.layers l.at;
      class : l.class ≡ class_in l.layers l.at;
    }

abbrev pub decreases-loop-end : goal.decreases-loop-end
decreases-loop-end l = 2 ^ 48 - l.end
