use Rattle.std.specs.Prelude.{map}
use Rattle.bao_config.proofs.Lists.{IsRead}
use Rattle.bao_config.proofs.items.read_items.Given as goal

abbrev pub invariant-loop-n : goal.invariant-loop-n
invariant-loop-n g l =
    IsRead g.I.Items.Fits (g.I.Items.faults_at l.spot) g.I.Items.record_of l.items l.n (map g.I.Items.plain l.read.items)
