use Rattle.std.proofs.Common.{◌≡◌, take}
use Rattle.region_list.specs.Layers.{class_in}
use Rattle.region_list.proofs.layers.class_at.Given as goal

abbrev pub invariant-loop-layer : goal.invariant-loop-layer
invariant-loop-layer l = l.class ≡ class_in (take l.layer-index l.layers) l.at
