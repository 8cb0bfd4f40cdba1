use Rattle.a64_decode.proofs.Distinct.{are_distinct}
use Rattle.a64_decode.proofs.table.words_are_distinct.Goals as goal

pub returns : goal.returns
returns c = are_distinct
