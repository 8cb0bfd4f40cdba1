use Rattle.std.proofs.Common.{◌≡◌, ℕ, ◌<◌, length}
use Rattle.std.specs.Prelude.{slice_get}
use Rattle.bao_config.specs.Data.{vm_data}
use Rattle.vm_model.specs.Duty.{powers_of}
use Rattle.hypervisor.proofs.hyp.Hyp.powers_of.Given as goal

abbrev pub invariant-loop-number : goal.invariant-loop-number
invariant-loop-number l = record {
  powers : (core : ℕ) → core < l.number → slice_get l.own core ≡ slice_get (powers_of (vm_data l.vm).cores l.self.powers) core;
  room : length l.own ≡ 8;
}
