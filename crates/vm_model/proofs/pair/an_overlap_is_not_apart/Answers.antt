use Rattle.std.proofs.Common.{◌≡◌, true, false, refl}
use Rattle.bao_wellformed.specs.Map.{by_map}
use Rattle.vm_model.proofs.pair.an_overlap_is_not_apart.Goals as goal

pub returns : goal.returns
unfolding by_map
returns c = λ images apart. let x : false ≡ true = apart.stores 1 0x108000 refl refl refl in cc
