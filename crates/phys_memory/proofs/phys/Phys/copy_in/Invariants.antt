use Rattle.std.proofs.Common.{◌≡◌, ◌+◌, ◌++◌, length, take, drop}
use Rattle.phys_memory.proofs.phys.Phys.copy_in.Given as goal

abbrev pub invariant-loop-k : goal.invariant-loop-k
invariant-loop-k l = (length l.self ≡ length l.fn.self) × (l.self ≡ take l.at l.fn.self ++ take l.k l.bytes ++ drop (l.at + l.k) l.fn.self)
