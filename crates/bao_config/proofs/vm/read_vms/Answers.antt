use Rattle.std.proofs.Common.{map}
use Rattle.std.proofs.lemmas.List.{map_push}
use Rattle.bao_config.specs.Data.{vm_data}
use Rattle.bao_config.proofs.Lists.{one_more}
use Rattle.bao_config.proofs.vm.read_vms.Goals as goal

pub loop-i-preserved : goal.loop-i-preserved
loop-i-preserved c =
    rw (c.in_ok-push.ensures.items, map_push vm_data c.loop-i.vms.items c.in_ok-read_vm.field-0)
    (one_more _ _ _ _ c.loop-i.i (map vm_data c.loop-i.vms.items) c.index-items-i.result (vm_data c.in_ok-read_vm.field-0) c.loop-i.invariant c.loop-i-test.true c.index-items-i.is (rw (← c.in_i.ensures) c.in_ok-read_vm.ensures))
