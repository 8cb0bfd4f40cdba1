use Rattle.std.proofs.Common.{◌≡◌, drop, map}
use Rattle.bao_wellformed.specs.Break.{first}
use Rattle.bao_wellformed.proofs.Firsts.{found_in}
use Rattle.bao_wellformed.proofs.pair_rules.first_with.Given as goal

abbrev pub invariant-loop-other : goal.invariant-loop-other
invariant-loop-other g l =
    first (found_in (λ (one, other). g.R.PairRule.is_broken l.rule one other) (λ (one, other). g.R.PairRule.report l.rule one other)
    (map (λ other. (l.one, other)) (drop l.other-index l.later)))
    ≡ first (found_in (λ (one, other). g.R.PairRule.is_broken l.rule one other) (λ (one, other). g.R.PairRule.report l.rule one other)
    (map (λ other. (l.one, other)) l.later))
