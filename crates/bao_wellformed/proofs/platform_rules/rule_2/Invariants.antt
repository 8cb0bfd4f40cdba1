use Rattle.std.proofs.Common.{◌≡◌, ◌≤◌, drop}
use Rattle.bao_types.specs.Shape.{memory_limit}
use Rattle.bao_wellformed.specs.Rules.{passing_bank}
use Rattle.bao_wellformed.proofs.platform_rules.rule_2.Given as goal

abbrev pub invariant-loop-bank : goal.invariant-loop-bank
invariant-loop-bank l =
    record {
      below : l.total ≤ memory_limit;
      rest : passing_bank l.total (drop l.bank-index l.bank-items) ≡ passing_bank 0 l.config.platform.banks.items;
    }
