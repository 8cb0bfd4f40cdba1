use Rattle.mpu_packer.proofs.LeastNumber.{has_no_fewer}
use Rattle.mpu_packer.proofs.Maximal.{packing_realises}
use Rattle.mpu_packer.proofs.OneList.{has_one_list}
use Rattle.mpu_packer.proofs.Verdicts.{gives_the_map}
use Rattle.mpu_packer.proofs.law.laws_of_packing.Goals as goal

pub returns : goal.returns
returns c = record { verdicts = gives_the_map; least = has_no_fewer; one = has_one_list; packing = packing_realises }
