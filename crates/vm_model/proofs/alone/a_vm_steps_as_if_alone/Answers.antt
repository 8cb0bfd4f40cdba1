use Rattle.vm_model.proofs.Run.{own_steps_agree}
use Rattle.vm_model.proofs.alone.a_vm_steps_as_if_alone.Goals as goal

pub returns : goal.returns
returns c = own_steps_agree
