use Rattle.std.proofs.Common.{◌≡◌, drop}
use Rattle.bao_config.specs.Data.{vm_data}
use Rattle.vm_model.specs.Duty.{all_off}
use Rattle.hypervisor.proofs.hyp.Hyp.turn_all_off.Given as goal

abbrev pub invariant-loop-core : goal.invariant-loop-core
invariant-loop-core l = record {
  powers : all_off (drop l.core-index l.core-items) l.self.powers ≡ all_off (vm_data l.vm).cores l.fn.self.powers;
  tables : l.self.tables ≡ l.fn.self.tables;
}
