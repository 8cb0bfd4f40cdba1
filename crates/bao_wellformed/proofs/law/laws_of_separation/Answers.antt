use Rattle.bao_wellformed.proofs.Alone.{alone_well_formed}
use Rattle.bao_wellformed.proofs.Apart.{maps_apart}
use Rattle.bao_wellformed.proofs.Once.{cores_apart, cores_owned, ports_apart}
use Rattle.bao_wellformed.proofs.law.laws_of_separation.Goals as goal

pub returns : goal.returns
returns c = record { maps = maps_apart; cores = cores_apart; owners = cores_owned; ports = ports_apart; alone = alone_well_formed }
