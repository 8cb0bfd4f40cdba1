use Rattle.std.proofs.Common.{◌≡◌, map, drop}
use Rattle.std.specs.List.{position_from}
use Rattle.std.specs.Str.{bytes_eq}
use Rattle.bao_config.specs.Data.{vm_data}
use Rattle.bao_wellformed.specs.Checked.{checked_data}
use Rattle.bao_run.proofs.images.image_named.Given as goal

abbrev pub invariant-loop-v : goal.invariant-loop-v
invariant-loop-v l =
    position_from (λ vm. bytes_eq vm.image l.name) l.v (map vm_data (drop l.v l.vm-items))
    ≡ position_from (λ vm. bytes_eq vm.image l.name) 0 (checked_data l.checked).vms
