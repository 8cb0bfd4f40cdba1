use Rattle.std.proofs.Common.{◌≡◌, ℕ, false, take}
use Rattle.bao_types.specs.ByteRange.{is_within}
use Rattle.region_list.specs.Layers.{AreInSpace, class_in}
use Rattle.region_list.proofs.layers.laid_over.Given as goal

abbrev pub invariant-loop-layer : goal.invariant-loop-layer
invariant-loop-layer l =
    record {
      in_space : AreInSpace l.laid.items;
      outside : (at : ℕ) → is_within l.top.range at ≡ false → class_in l.laid.items at ≡ class_in (take l.layer-index l.layers) at;
    }
