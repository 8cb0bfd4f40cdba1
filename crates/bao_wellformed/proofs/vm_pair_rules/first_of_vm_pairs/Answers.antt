use Rattle.std.proofs.Common.{◌≡◌, ◌<◌, ◌∙◌, List, length, get_or, sym, subst}
use Rattle.bao_config.specs.declared.config.Vm.{Vm}
use Rattle.bao_config.specs.Config.{config_data}
use Rattle.bao_config.specs.Data.{vm_data}
use Rattle.bao_config.specs.Fits.{VmFits}
use Rattle.bao_wellformed.proofs.Fits.{viewed_fits}
use Rattle.bao_wellformed.proofs.Firsts.{two_here, two_later}
use Rattle.bao_wellformed.proofs.vm_pair_rules.first_of_vm_pairs.Goals as goal

pub first_with-found-requires-clause-vm : goal.first_with-found-requires-clause-vm
first_with-found-requires-clause-vm g c =
    let same = c.deref-vm-items.ensures.value in
    viewed_fits VmFits vm_data c.args.config.now.vms.items c.loop-place.place c.vm-item.result
    (subst (λ (vms : List Vm). c.loop-place.place < length vms) same c.loop-place-test.true)
    (subst (λ (vms : List Vm). c.vm-item.result ≡ get_or vms c.loop-place.place c.vm-item.result) same c.vm-item.is) c.args.config.now.fits.vms.each

pub returns-then-is_some : goal.returns-then-is_some
returns-then-is_some g c =
    let same = c.deref-vm-items.ensures.value in
    two_here vm_data (g.R.VmPairRule.breaks (config_data c.args.config.now)) c.args.config.now.vms.items c.loop-place.place c.vm-item.result
    c.first_with-found.result (subst (λ (vms : List Vm). c.loop-place.place < length vms) same c.loop-place-test.true)
    (subst (λ (vms : List Vm). c.vm-item.result ≡ get_or vms c.loop-place.place c.vm-item.result) same c.vm-item.is) c.first_with-found.ensures
    (sym c.is_some.ensures ∙ c.if-is_some.true) ∙ c.loop-place.invariant

pub loop-place-preserved : goal.loop-place-preserved
loop-place-preserved g c =
    let same = c.deref-vm-items.ensures.value in
    two_later vm_data (g.R.VmPairRule.breaks (config_data c.args.config.now)) c.args.config.now.vms.items c.loop-place.place c.vm-item.result
    c.first_with-found.result (subst (λ (vms : List Vm). c.loop-place.place < length vms) same c.loop-place-test.true)
    (subst (λ (vms : List Vm). c.vm-item.result ≡ get_or vms c.loop-place.place c.vm-item.result) same c.vm-item.is) c.first_with-found.ensures
    (sym c.is_some.ensures ∙ c.if-is_some.false) ∙ c.loop-place.invariant
