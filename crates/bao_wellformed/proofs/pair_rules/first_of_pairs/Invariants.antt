use Rattle.std.proofs.Common.{◌≡◌, drop}
use Rattle.bao_wellformed.specs.Break.{pairs, first}
use Rattle.bao_wellformed.proofs.Firsts.{found_in}
use Rattle.bao_wellformed.proofs.pair_rules.first_of_pairs.Given as goal

abbrev pub invariant-loop-i : goal.invariant-loop-i
invariant-loop-i g l =
    first (found_in (λ (one, other). g.R.PairRule.is_broken l.rule one other) (λ (one, other). g.R.PairRule.report l.rule one other) (pairs (drop l.i l.items)))
    ≡ first (found_in (λ (one, other). g.R.PairRule.is_broken l.rule one other) (λ (one, other). g.R.PairRule.report l.rule one other) (pairs l.items))
