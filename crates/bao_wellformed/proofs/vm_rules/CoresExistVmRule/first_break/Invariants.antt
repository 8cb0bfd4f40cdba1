use Rattle.std.proofs.Common.{◌≡◌, ℕ, nat_le, length, drop, filter}
use Rattle.std.specs.List.{enumerate_from}
use Rattle.bao_wellformed.proofs.vm_rules.CoresExistVmRule.first_break.Given as goal

abbrev pub invariant-loop-item : goal.invariant-loop-item
invariant-loop-item l =
    let is_broken : ℕ × ℕ → _ = λ (j, core). nat_le (length l.config.platform.cores.items) core in
    filter is_broken (enumerate_from l.item (drop l.item l.core-items))
    ≡ filter is_broken (enumerate_from 0 l.vm.cores.items)
