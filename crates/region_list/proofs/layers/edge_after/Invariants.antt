use Rattle.std.proofs.Common.{◌≡◌, ◌^◌, ◌<◌, ◌≤◌, ℕ, take}
use Rattle.region_list.specs.Layers.{class_in}
use Rattle.region_list.proofs.layers.edge_after.Given as goal

abbrev pub invariant-loop-layer : goal.invariant-loop-layer
invariant-loop-layer l =
    record {
      above : l.at < l.edge;
      in_space : l.edge ≤ 2 ^ 48;
      equal : (byte : ℕ) → l.at ≤ byte → byte < l.edge → class_in (take l.layer-index l.layers) byte ≡ class_in (take l.layer-index l.layers) l.at;
    }
