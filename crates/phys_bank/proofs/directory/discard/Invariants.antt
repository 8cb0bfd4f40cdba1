use Rattle.std.proofs.Common.{vec_len}
use Rattle.phys_bank.proofs.directory.discard.Given as goal

abbrev pub decreases-loop-page : goal.decreases-loop-page
decreases-loop-page l = vec_len l.pages
