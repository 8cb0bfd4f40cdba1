use Rattle.std.proofs.Common.{◌≡◌, drop}
use Rattle.std.specs.Prelude.{◌==◌}
use Rattle.std.specs.List.{list_any}
use Rattle.bao_config.specs.declared.config.Dev.{Dev}
use Rattle.schedule.proofs.places.port_in.Given as goal

abbrev pub invariant-loop-dev : goal.invariant-loop-dev
invariant-loop-dev l =
    list_any (λ (dev : Dev). dev.port == l.port) (drop l.dev-index l.dev-items)
    ≡ list_any (λ (dev : Dev). dev.port == l.port) l.vm.devs.items
