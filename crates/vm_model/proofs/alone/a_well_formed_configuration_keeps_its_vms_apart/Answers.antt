use Rattle.vm_model.proofs.WellFormed.{well_formed_apart, well_formed_granular}
use Rattle.vm_model.proofs.alone.a_well_formed_configuration_keeps_its_vms_apart.Goals as goal

pub returns : goal.returns
returns c = record { apart = well_formed_apart; granular = well_formed_granular }
