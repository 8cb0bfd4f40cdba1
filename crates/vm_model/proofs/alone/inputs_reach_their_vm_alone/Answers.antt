use Rattle.vm_model.proofs.Run.{inputs_agree}
use Rattle.vm_model.proofs.alone.inputs_reach_their_vm_alone.Goals as goal

pub returns : goal.returns
returns c = inputs_agree
