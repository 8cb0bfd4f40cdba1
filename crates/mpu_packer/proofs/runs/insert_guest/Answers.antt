use Rattle.std.proofs.Common.{◌≤◌, ◌∙◌, List, All, subst, sym, ap}
use Rattle.bao_types.specs.ByteRange.{address_space_end, end}
use Rattle.bao_config.specs.Data.{ConfigData, vm_data}
use Rattle.bao_wellformed.specs.declared.map.MapEntry.{MapEntry}
use Rattle.bao_wellformed.specs.Checked.{checked_data}
use Rattle.bao_wellformed.specs.Map.{map_of}
use Rattle.bao_wellformed.proofs.Places.{maps_in_space}
use Rattle.mpu_packer.proofs.Owners.{vm_at}
use Rattle.mpu_packer.proofs.runs.insert_guest.Goals as goal

pub insert_map-requires-clause-in_space : goal.insert_map-requires-clause-in_space
insert_map-requires-clause-in_space c =
    let cfg = checked_data c.args.checked.now in
    let is =
    vm_at cfg c.config.result.now c.as_slice-vm-items.result.now c.loop-vm.vm-index c.vm-item.result c.config.ensures
    c.as_slice-vm-items.ensures.value c.loop-vm-test.true c.vm-item.is in
    subst (λ (entries : List MapEntry). All (λ entry. end entry.range ≤ address_space_end) entries)
    (sym (c.as_slice.ensures.value ∙ c.map_of-entries.ensures ∙ ap (λ (cfg : ConfigData). map_of cfg (vm_data c.vm-item.result)) c.config-then-has_core.ensures))
    (maps_in_space cfg c.loop-vm.vm-index (vm_data c.vm-item.result) c.args.checked.now.well_formed is)
