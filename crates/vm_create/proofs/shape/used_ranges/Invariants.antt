use Rattle.std.proofs.Common.{◌≡◌, ◌*◌, ◌≤◌, length, map, take}
use Rattle.std.specs.List.{flat_map}
use Rattle.bao_config.specs.Data.{vm_data}
use Rattle.vm_create.proofs.shape.used_ranges.Given as goal

abbrev pub invariant-loop-vm : goal.invariant-loop-vm
invariant-loop-vm l =
    record {
      items : l.used.items ≡ flat_map (λ vm. map (λ region. region.range) vm.regions) (map vm_data (take l.vm-index l.vm-items));
      len : length l.used.items ≤ 16 * l.vm-index;
    }
