use Rattle.std.proofs.Common.{arith}
use Rattle.region_list.proofs.RunsLemmas.{in_a_run, one_list}
use Rattle.region_list.proofs.law.laws_of_runs.Goals as goal

pub returns-clause-one_list : goal.returns-clause-one_list
returns-clause-one_list c = λ class_of runs others. one_list class_of runs others 0

pub returns-clause-complete : goal.returns-clause-complete
returns-clause-complete c = λ class_of runs at all something. in_a_run class_of runs 0 at all (omega arith) something
