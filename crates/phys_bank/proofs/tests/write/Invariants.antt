use Rattle.std.proofs.Common.{ℕ, ◌+◌, ◌<◌}
use Rattle.std.specs.Prelude.{IsTrue}
use Rattle.phys_bank.specs.Banks.{is_kept}
use Rattle.phys_bank.proofs.tests.write.Given as goal

abbrev pub invariant-loop-k : goal.invariant-loop-k
invariant-loop-k g l = (j : ℕ) → j < l.k → IsTrue (is_kept l.banks (l.at + j))
