use Rattle.a64_address.proofs.Agreement.{agree}
use Rattle.a64_address.proofs.shape.shapes_agree.Goals as goal

pub returns : goal.returns
returns c = agree
