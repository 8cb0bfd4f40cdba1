use Rattle.pmsa_table.proofs.table.Table.+judge_each.Given as goal

abbrev pub decreases-judge_each : goal.decreases-judge_each
decreases-judge_each l = l.count
