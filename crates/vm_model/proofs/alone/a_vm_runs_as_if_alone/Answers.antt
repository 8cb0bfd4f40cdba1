use Rattle.vm_model.proofs.Run.{runs_as_if_alone}
use Rattle.vm_model.proofs.alone.a_vm_runs_as_if_alone.Goals as goal

pub returns : goal.returns
returns c = runs_as_if_alone
