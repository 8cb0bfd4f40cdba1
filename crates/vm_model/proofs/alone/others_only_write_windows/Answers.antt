use Rattle.vm_model.proofs.Run.{other_steps_agree}
use Rattle.vm_model.proofs.alone.others_only_write_windows.Goals as goal

pub returns : goal.returns
returns c = other_steps_agree
