use Rattle.std.proofs.Common.{◌≡◌, ℕ, drop, length, slice_get, Some}
use Rattle.bao_wellformed.specs.Checked.{checked_data}
use Rattle.mpu_packer.specs.declared.entries.Plan.{Plan}
use Rattle.vm_create.specs.Boot.{IsPlanOf}
use Rattle.bao_run.specs.Ruling.{Ruling, rule_packing}
use Rattle.bao_run.proofs.config.pack_all.Given as goal

abbrev pub invariant-loop-core : goal.invariant-loop-core
invariant-loop-core l =
    let cfg = checked_data l.checked in
    record {
      each : (core : ℕ) (plan : Plan) → slice_get l.plans.items core ≡ Some plan → IsPlanOf cfg core plan;
      count : length l.plans.items ≡ l.core;
      passes : (next : Ruling) → rule_packing next cfg 0 cfg.platform.cores ≡ rule_packing next cfg l.core (drop l.core cfg.platform.cores);
    }
