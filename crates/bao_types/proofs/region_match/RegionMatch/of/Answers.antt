use Rattle.std.proofs.Common.{sym, ◌∙◌}
use Rattle.bao_types.proofs.Matches.{region_match-overlap}
use Rattle.bao_types.proofs.region_match.RegionMatch.of.Goals as goal

pub returns-in_default : goal.returns-in_default
returns-in_default c =
    sym (region_match-overlap _ c.loop-region.region-index _ _ c.loop-region-test.true (sym c.is_match.ensures ∙ c.if-is_match.true) (λ miss. c.in_default.not-Miss (c.loop-region.invariant ∙ miss)))
