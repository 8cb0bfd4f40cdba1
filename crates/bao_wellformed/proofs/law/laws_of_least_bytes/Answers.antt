use Rattle.bao_wellformed.proofs.Places.{lacking_least, clash_least}
use Rattle.bao_wellformed.proofs.law.laws_of_least_bytes.Goals as goal

pub returns : goal.returns
returns c = record { lacking = lacking_least; clash = clash_least }
