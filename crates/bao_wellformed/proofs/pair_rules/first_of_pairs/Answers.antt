use Rattle.std.proofs.Common.{◌∙◌, sym}
use Rattle.bao_wellformed.proofs.Firsts.{pair_here, pair_later}
use Rattle.bao_wellformed.proofs.pair_rules.first_of_pairs.Goals as goal

pub returns-then-is_some : goal.returns-then-is_some
returns-then-is_some g c =
    pair_here (λ (one, other). g.R.PairRule.is_broken c.args.rule.now one other) (λ (one, other). g.R.PairRule.report c.args.rule.now one other)
    c.args.items.now c.loop-i.i c.index-items-i.result c.split_at.result.1.now c.first_with-found.result
    c.loop-i-test.true c.index-items-i.is c.split_at.ensures.back c.first_with-found.ensures
    (sym c.is_some.ensures ∙ c.if-is_some.true) ∙ c.loop-i.invariant

pub loop-i-preserved : goal.loop-i-preserved
loop-i-preserved g c =
    pair_later (λ (one, other). g.R.PairRule.is_broken c.args.rule.now one other) (λ (one, other). g.R.PairRule.report c.args.rule.now one other)
    c.args.items.now c.loop-i.i c.index-items-i.result c.split_at.result.1.now c.first_with-found.result
    c.loop-i-test.true c.index-items-i.is c.split_at.ensures.back c.first_with-found.ensures
    (sym c.is_some.ensures ∙ c.if-is_some.false) ∙ c.loop-i.invariant
