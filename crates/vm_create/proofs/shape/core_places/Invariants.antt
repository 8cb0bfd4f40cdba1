use Rattle.std.proofs.Common.{◌≡◌, ◌++◌, length, map, drop}
use Rattle.std.specs.List.{enumerate_from}
use Rattle.bao_config.specs.Config.{config_data}
use Rattle.hypervisor.specs.Shape.{core_place}
use Rattle.vm_create.proofs.shape.core_places.Given as goal

abbrev pub invariant-loop-core : goal.invariant-loop-core
invariant-loop-core l =
    let cfg = config_data l.config in
    record {
      places : l.places.items ++ map (λ place. core_place cfg place.0 place.1) (enumerate_from l.core (drop l.core cfg.platform.cores))
          ≡ map (λ place. core_place cfg place.0 place.1) (enumerate_from 0 cfg.platform.cores);
      len : length l.places.items ≡ l.core;
    }
