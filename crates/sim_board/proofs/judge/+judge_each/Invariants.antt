use Rattle.sim_board.proofs.judge.+judge_each.Given as goal

abbrev pub decreases-judge_each : goal.decreases-judge_each
decreases-judge_each l = l.count
