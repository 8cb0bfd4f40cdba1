use Rattle.std.proofs.Common.{◌≤◌, length, refl, ap, ◌∙◌, arith}
use Rattle.bao_config.specs.Config.{config_data}
use Rattle.bao_config.specs.Data.{vm_data}
use Rattle.bao_wellformed.proofs.Fits.{vm_fits}
use Rattle.mpu_packer.proofs.Owners.{vm_at}
use Rattle.report.proofs.Vms.{short_name}
use Rattle.report.proofs.packing.owner_name.Goals as goal

pub returns-then-has_core-clause-len : goal.returns-then-has_core-clause-len
returns-then-has_core-clause-len c =
    let cfg = config_data c.args.config.now in
    let is =
    vm_at cfg c.args.config.now c.as_slice-vm-items.result.now c.loop-vm.vm-index c.vm-item.result refl
    c.as_slice-vm-items.ensures.value c.loop-vm-test.true c.vm-item.is in
    let fits = vm_fits cfg c.loop-vm.vm-index (vm_data c.vm-item.result) c.args.config.now.fits is in
    let short : length c.vm-item.result.name ≤ 16 = short_name c.vm-item.result.name fits.name in
    omega (arith, short, ap length (c.as_bytes.ensures.value ∙ c.as_str.ensures))
