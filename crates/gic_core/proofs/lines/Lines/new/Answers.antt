use Rattle.std.proofs.Common.{ap, sym, take, ◌∙◌}
use Rattle.std.specs.List.{list_any}
use Rattle.gic_core.proofs.LinesLemmas.{none_quiet}
use Rattle.gic_core.proofs.lines.Lines.new.Goals as goal

pub invariant_of-result : goal.invariant_of-result
invariant_of-result c =
    none_quiet (take c.loop-spot.spot-index c.as_slice-spot-items.result.now) ∙ sym (ap (list_any (λ line. line.raised)) c.loop-spot.invariant)
