use Rattle.std.proofs.Common.{◌≡◌, ◌++◌, length, map, drop}
use Rattle.std.specs.List.{enumerate_from}
use Rattle.bao_wellformed.specs.Checked.{checked_data}
use Rattle.bao_wellformed.specs.Map.{owner}
use Rattle.vm_model.specs.Boot.{boot_power, boot_powers}
use Rattle.hypervisor.proofs.hyp.boot_powers.Given as goal

abbrev pub invariant-loop-core : goal.invariant-loop-core
invariant-loop-core l =
    let cfg = checked_data l.checked in
    record {
      powers : l.powers.items ++ map (λ place. boot_power (owner cfg place.0) place.0) (enumerate_from l.core (drop l.core cfg.platform.cores))
          ≡ boot_powers cfg;
      len : length l.powers.items ≡ l.core;
    }
