use Rattle.std.proofs.Common.{◌≡◌, ◌+◌, ◌++◌, length, take, drop}
use Rattle.bao_types.specs.Bytes.{low_bytes}
use Rattle.phys_memory.proofs.Numbers.{shifted}
use Rattle.phys_memory.proofs.phys.Phys.put_number.Given as goal

abbrev pub invariant-loop-k : goal.invariant-loop-k
invariant-loop-k l = (length l.self ≡ length l.fn.self) × (l.rest ≡ shifted l.k l.value) × (l.self ≡ take l.at l.fn.self ++ low_bytes l.k l.value ++ drop (l.at + l.k) l.fn.self)
