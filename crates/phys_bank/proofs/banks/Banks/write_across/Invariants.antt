use Rattle.std.proofs.Common.{◌≡◌}
use Rattle.bao_types.specs.Bytes.{low_bytes}
use Rattle.phys_memory.proofs.Numbers.{shifted}
use Rattle.phys_bank.specs.Banks.{IsWritten}
use Rattle.phys_bank.proofs.banks.Banks.write_across.Given as goal

abbrev pub invariant-loop-k : goal.invariant-loop-k
invariant-loop-k l = IsWritten l.fn.self l.self l.at (low_bytes l.k l.value) × (l.rest ≡ shifted l.k l.value)
