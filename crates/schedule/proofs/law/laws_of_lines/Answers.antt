use Rattle.schedule.proofs.Spelled.{steps, inputs}
use Rattle.schedule.proofs.law.laws_of_lines.Goals as goal

pub returns-clause-steps : goal.returns-clause-steps
returns-clause-steps c = steps

pub returns-clause-inputs : goal.returns-clause-inputs
returns-clause-inputs c = inputs
