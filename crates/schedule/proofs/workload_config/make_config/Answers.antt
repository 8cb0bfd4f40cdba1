use Rattle.std.proofs.Common.{◌≡◌, [], ◌∷◌, ◌++◌, rules, map, sym, subst, ap, ◌∙◌, arith}
use Rattle.bao_config.specs.Data.{vm_data}
use Rattle.bao_config.specs.Fits.{ConfigFits}
use Rattle.schedule.specs.Workload.{for_each_below, vm_at}
use Rattle.schedule.proofs.Drawn.{one_more_seen}
use Rattle.schedule.proofs.WorkloadFits.{config_fits}
use Rattle.schedule.proofs.workload_config.make_config.Goals as goal

pub loop-v-preserved : goal.loop-v-preserved
loop-v-preserved c =
    let pushed : c.push.new.self.items ≡ c.loop-v.vms.items ++ c.in_ok-vm.vm ∷ [] = search rules in
    ap (map vm_data) pushed
    ∙ one_more_seen vm_data vm_at c.loop-v.v c.loop-v.vms.items c.in_ok-vm.vm c.loop-v.invariant c.in_ok-vm.ensures

pub invariant_of-result : goal.invariant_of-result
invariant_of-result c =
    let count : c.loop-v.v ≡ c.args.count = omega (arith, c.loop-v-test.false, c.loop-v.auto.v-end) in
    let vms : map vm_data c.loop-v.vms.items ≡ for_each_below c.args.count vm_at = c.loop-v.invariant ∙ ap (λ count. for_each_below count vm_at) count in
    record {
      fits = subst ConfigFits
          (λ t. record { version = 1; platform = sym c.make_platform.ensures t; hyp = record { base = 0; size = 0x10000 }; shmems = sym c.new.ensures t; vms = sym vms t })
          (config_fits c.args.count c.requires.few c.requires.many);
    }
