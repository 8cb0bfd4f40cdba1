use Rattle.hypervisor.proofs.Refines.{steps_alike}
use Rattle.hypervisor.proofs.law.a_core_steps_as_in_the_model.Goals as goal

pub returns : goal.returns
returns c = steps_alike
