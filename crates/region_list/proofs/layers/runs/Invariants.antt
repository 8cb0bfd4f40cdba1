use Rattle.std.proofs.Common.{◌-◌, ◌^◌}
use Rattle.region_list.specs.Layers.{class_in}
use Rattle.region_list.proofs.RunsLemmas.{HasFound}
use Rattle.region_list.proofs.layers.runs.Given as goal

abbrev pub invariant-loop-at : goal.invariant-loop-at
invariant-loop-at l = HasFound (class_in l.layers) l.at l.runs.items

abbrev pub decreases-loop-at : goal.decreases-loop-at
decreases-loop-at l = 2 ^ 48 - l.at
