use Rattle.vm_model.proofs.Apart.{a_is_apart, b_is_apart}
use Rattle.vm_model.proofs.Granular.{a_is_granular, b_is_granular}
use Rattle.vm_model.proofs.pair.the_pair_is_apart.Goals as goal

pub returns : goal.returns
returns c = record { a = a_is_apart; b = b_is_apart; granular_a = a_is_granular; granular_b = b_is_granular }
