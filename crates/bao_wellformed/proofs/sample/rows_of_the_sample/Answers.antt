use Rattle.std.proofs.Common.{refl}
use Rattle.bao_wellformed.specs.WellFormed.{breaks}
use Rattle.bao_wellformed.proofs.sample.rows_of_the_sample.Goals as goal

pub returns : goal.returns
unfolding breaks
returns c = record { well_formed = refl; common_memory = refl; window_on_memory = refl; guarded = refl }
