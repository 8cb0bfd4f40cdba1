use Rattle.std.proofs.Common.{◌≡◌, ℕ, not, drop, filter}
use Rattle.std.specs.List.{enumerate_from}
use Rattle.bao_config.specs.Config.{config_data}
use Rattle.bao_config.specs.declared.config.Dev.{Dev}
use Rattle.bao_wellformed.specs.Rules.{names_a_port}
use Rattle.bao_wellformed.proofs.vm_rules.DevsHavePortsVmRule.first_break.Given as goal

abbrev pub invariant-loop-item : goal.invariant-loop-item
invariant-loop-item l =
    let is_broken : ℕ × Dev → _ = λ (j, dev). not (names_a_port (config_data l.config) dev) in
    filter is_broken (enumerate_from l.item (drop l.item l.dev-items))
    ≡ filter is_broken (enumerate_from 0 l.vm.devs.items)
