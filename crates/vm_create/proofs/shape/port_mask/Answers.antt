use Rattle.std.proofs.Common.{◌<◌, All, sym, subst, arith}
use Rattle.std.proofs.lemmas.List.Elements.{All-weaker}
use Rattle.bao_config.specs.Bounds.{IsInBounds, core}
use Rattle.bao_config.specs.Data.{vm_data}
use Rattle.bao_wellformed.specs.Checked.{checked_data}
use Rattle.bao_wellformed.proofs.Fits.{vm_fits}
use Rattle.bao_wellformed.proofs.Kept.{kept}
use Rattle.mpu_packer.proofs.Owners.{vm_at}
use Rattle.vm_create.proofs.Masks.{Differ, cores_differ}
use Rattle.vm_create.proofs.shape.port_mask.Goals as goal

pub core_mask-requires-clause-distinct : goal.core_mask-requires-clause-distinct
core_mask-requires-clause-distinct c =
    let cfg = checked_data c.args.checked.now in
    let is =
    vm_at cfg c.config.result.now c.as_slice-vm-items.result.now c.loop-vm.vm-index c.vm-item.result c.config.ensures
    c.as_slice-vm-items.ensures.value c.loop-vm-test.true c.vm-item.is in
    subst Differ (sym c.as_slice.ensures.value)
    (cores_differ cfg (kept cfg c.args.checked.now.well_formed).r11 c.loop-vm.vm-index (vm_data c.vm-item.result) is)

pub core_mask-requires-clause-low : goal.core_mask-requires-clause-low
core_mask-requires-clause-low c =
    let cfg = checked_data c.args.checked.now in
    let is =
    vm_at cfg c.config.result.now c.as_slice-vm-items.result.now c.loop-vm.vm-index c.vm-item.result c.config.ensures
    c.as_slice-vm-items.ensures.value c.loop-vm-test.true c.vm-item.is in
    let fits = vm_fits cfg c.loop-vm.vm-index (vm_data c.vm-item.result) c.args.checked.now.config.fits is in
    subst (All (λ core. core < 8)) (sym c.as_slice.ensures.value)
    (All-weaker (IsInBounds core) (λ core. core < 8) (λ number fit. omega (arith, fit.most)) (vm_data c.vm-item.result).cores fits.cores.each)
